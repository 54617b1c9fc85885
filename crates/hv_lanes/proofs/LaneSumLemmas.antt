-- The four sums of four products, lane by lane.
use Rattle.std.proofs.Common.{Bool, List, [], ap₂, arith, false, length, map, nat_lt, negsuc, pos, refl, suc, take, true, zero, ℕ, ℤ, ◌%◌, ◌*ℤ◌, ◌*◌, ◌++◌, ◌+ℤ◌, ◌+◌, ◌<◌, ◌∙◌, ◌∷◌, ◌≡◌}
use mir.Syntax.{w16, w32}
use mir.Val.{SFits, of_z, to_z}
use Rattle.std.proofs.lemmas.Int.{int_wrap-add_left, int_wrap-add_right, to_z-of_z, wrapping_add-bits, wrapping_mul-bits}
use Rattle.std.specs.Int.{int_wrap}
use lib.ListN.{get_or}
use Rattle.hv_lanes.specs.Lanes.{at}
use Rattle.std.proofs.lemmas.Bool.{leb-true}

abbrev wide : ℕ → ℕ
wide n = of_z w32 (to_z w16 n)

abbrev product : ℕ → ℕ → ℕ
product x w = wide x * wide w % 4294967296

abbrev pub lane : (a b c d e f g h : ℕ) → ℤ
lane a b c d e f g h = to_z w32 (((product a e + product b f) % 4294967296 + (product c g + product d h) % 4294967296) % 4294967296)

-- a number of 16 bits has 32
pub widened : (z : ℤ) → SFits w16 z → SFits w32 z
widened z f = record { sfits = omega (arith, f) }

pub below : (z : ℤ) → SFits w32 z → of_z w32 z < 4294967296
below (pos n) f = omega (arith, f)
below (negsuc n) f = omega (arith, f)

product_is : (x w : ℤ) → SFits w16 x → SFits w16 w → to_z w32 (product (of_z w16 x) (of_z w16 w)) ≡ int_wrap w32 (x *ℤ w)
product_is x w f g =
    rw (to_z-of_z w16 x f, to_z-of_z w16 w g)
    (wrapping_mul-bits w32 (of_z w32 x) (of_z w32 w) (below x (widened x f)) (below w (widened w g))
    ∙ ap₂ (λ a b. int_wrap w32 (a *ℤ b)) (to_z-of_z w32 x (widened x f)) (to_z-of_z w32 w (widened w g)))

-- wrapping at the end is enough
pub joined : (a b : ℤ) → int_wrap w32 (int_wrap w32 a +ℤ int_wrap w32 b) ≡ int_wrap w32 (a +ℤ b)
joined a b = int_wrap-add_left w32 a (int_wrap w32 b) ∙ int_wrap-add_right w32 a b

-- a sum of two
pub sum_is : (m n : ℕ) (a b : ℤ) → m < 4294967296 → n < 4294967296 → to_z w32 m ≡ int_wrap w32 a → to_z w32 n ≡ int_wrap w32 b → to_z w32 ((m + n) % 4294967296) ≡ int_wrap w32 (a +ℤ b)
sum_is m n a b p q e f =
    wrapping_add-bits w32 m n p q ∙ ap₂ (λ a b. int_wrap w32 (a +ℤ b)) e f ∙ joined a b

pub lane_is : (a b c d e f g h : ℤ) → SFits w16 a → SFits w16 b → SFits w16 c → SFits w16 d → SFits w16 e → SFits w16 f → SFits w16 g → SFits w16 h
    → lane (of_z w16 a) (of_z w16 b) (of_z w16 c) (of_z w16 d) (of_z w16 e) (of_z w16 f) (of_z w16 g) (of_z w16 h) ≡ int_wrap w32 (((a *ℤ e) +ℤ (b *ℤ f)) +ℤ ((c *ℤ g) +ℤ (d *ℤ h)))
lane_is a b c d e f g h fa fb fc fd fe ff fg fh =
    sum_is _ _ ((a *ℤ e) +ℤ (b *ℤ f)) ((c *ℤ g) +ℤ (d *ℤ h)) (omega arith) (omega arith)
    (sum_is _ _ (a *ℤ e) (b *ℤ f) (omega arith) (omega arith) (product_is a e fa fe) (product_is b f fb ff))
    (sum_is _ _ (c *ℤ g) (d *ℤ h) (omega arith) (omega arith) (product_is c g fc fg) (product_is d h fd fh))

pub numbers : (n k : ℕ) (xs : List ℤ) (ys : List ℕ) → length xs ≡ n → k < n → get_or (map (of_z w16) (take n xs) ++ ys) k 0 ≡ of_z w16 (at xs k)
numbers zero k xs ys l q = absurd (omega (arith, q))
numbers (suc n) k [] ys l q = absurd (omega arith)
numbers (suc n) zero (x ∷ xs) ys l q = refl
numbers (suc n) (suc k) (x ∷ xs) ys l q = numbers n k xs ys (omega (arith, l)) (omega (arith, q))

pub end : (n k : ℕ) (xs : List ℤ) → length xs ≡ n → k < n → get_or (map (of_z w16) (take n xs)) k 0 ≡ of_z w16 (at xs k)
end zero k xs l q = absurd (omega (arith, q))
end (suc n) k [] l q = absurd (omega arith)
end (suc n) zero (x ∷ xs) l q = refl
end (suc n) (suc k) (x ∷ xs) l q = end n k xs (omega (arith, l)) (omega (arith, q))

always_by : (b : Bool) (n : ℕ) → nat_lt n 32768 ≡ b → SFits w32 (to_z w16 n)
always_by true n e = rw (e) (record { sfits = omega (arith, leb-true _ _ e) })
always_by false n e = rw (e) (record { sfits = omega arith })

-- a number of 16 bits is one of 32
pub always : (n : ℕ) → SFits w32 (to_z w16 n)
always n = always_by _ n refl
