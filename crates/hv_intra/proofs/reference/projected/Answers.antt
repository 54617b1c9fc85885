use Rattle.std.proofs.Common.{◌≡◌, ap, sym, ◌∙◌, arith}
use Rattle.std.specs.Prelude.{ℤ, pos, ◌+ℤ◌}
use Rattle.std.specs.Int.{int_shr}
use Rattle.std.specs.Int.RustNames.{unsigned_abs}
use Rattle.hv_intra.specs.References.{projected}
use Rattle.hv_intra.proofs.SignedLemmas.{place_is, place_small}
use Rattle.hv_intra.proofs.FactLemmas.{projected_is}
use Rattle.hv_intra.proofs.reference.projected.Goals as goal

pub overflow_cast-result : goal.overflow_cast-result
overflow_cast-result c =
    let e : pos (projected c.args.mode c.args.i) ≡ int_shr (c.way_back.result +ℤ pos 128) 8 =
    projected_is c.args.mode c.args.i c.requires.first c.requires.last c.requires.sample ∙
    ap (λ (z : ℤ). int_shr (z +ℤ pos 128) 8) (sym c.way_back.ensures.value) in
    let few = place_small c.way_back.result c.way_back.ensures.most in
    let same = ap unsigned_abs e in
    rw (place_is c.way_back.result c.way_back.ensures.most, ← e) (tt, omega (arith, few, same))

pub returns : goal.returns
unfolding projected
returns c =
    ap unsigned_abs (place_is c.way_back.result c.way_back.ensures.most) ∙
    ap (λ (z : ℤ). unsigned_abs (int_shr (z +ℤ pos 128) 8)) c.way_back.ensures.value
