-- What calls put into a sink, one after another.
use Rattle.std.proofs.Common.{◌≡◌, ℕ, List, [], ◌++◌, sym, subst, append_assoc, append-nil}
use Rattle.hv_tables.specs.declared.bins.SliceKind.{SliceKind}
use Rattle.hv_tables.specs.Bins.{Bin, Puts}

module _ {S : Type 0} (stands_for : S → SliceKind → ℕ → List Bin → Type 0) where
  pub puts_nothing : (a : S) → Puts stands_for a a []
  puts_nothing a kind qp before h =
      subst (λ bins. stands_for a kind qp bins) (sym (append-nil before)) h

  pub puts_both : (a b c : S) (xs ys : List Bin) →
      Puts stands_for a b xs → Puts stands_for b c ys → Puts stands_for a c (xs ++ ys)
  puts_both a b c xs ys f g kind qp before h =
      subst (λ bins. stands_for c kind qp bins) (append_assoc before xs ys)
      (g kind qp (before ++ xs) (f kind qp before h))

  -- whatever puts the rest into the later sink has put all
  abbrev pub Leaves : S → S → List Bin → List Bin → Type 0
  Leaves old new rest all =
      (last : S) → Puts stands_for new last rest → Puts stands_for old last all

  -- one more call
  pub leaves_less : (a b c : S) (xs rest from all : List Bin) → Leaves a b from all →
      from ≡ xs ++ rest → Puts stands_for b c xs → Leaves a c rest all
  leaves_less a b c xs rest from all left e p last q =
      left last
      (subst (λ bins. Puts stands_for b last bins) (sym e) (puts_both b c last xs rest p q))

  pub leaves_nothing : (a b : S) (from all : List Bin) → Leaves a b from all → from ≡ [] →
      Puts stands_for a b all
  leaves_nothing a b from all left e =
      left b (subst (λ bins. Puts stands_for b b bins) (sym e) (puts_nothing b))
