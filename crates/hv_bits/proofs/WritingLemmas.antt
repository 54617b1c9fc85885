-- Bits that are put one after another, for the calls of `BitWriter`.
use Rattle.std.proofs.Common.{◌≡◌, ℕ, List, ◌++◌, ap, ◌∙◌, subst, append_assoc}
use Rattle.hv_bits.specs.Writing.{Written, Appends}

-- these bits, and then those
pub Appends-then : {a b c : Written} {xs ys : List ℕ} → Appends a b xs → Appends b c ys →
    Appends a c (xs ++ ys)
Appends-then {a} {b} {c} {xs} {ys} p q = record {
  unfailed = λ e. p.unfailed (q.unfailed e);
  bits = λ e. q.bits e ∙ ap (λ w. w ++ ys) (p.bits (q.unfailed e)) ∙ append_assoc a.bits xs ys;
}

-- the same bits, said in another way
pub Appends-same : {a b : Written} {xs ys : List ℕ} → xs ≡ ys → Appends a b xs → Appends a b ys
Appends-same {a} {b} e p = subst (λ zs. Appends a b zs) e p
