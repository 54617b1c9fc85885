use Rattle.std.proofs.Common.{◌≡◌, ℕ, List, subst, arith, slice_index_or}
use Rattle.hv_types.specs.Samples.{Plane}
use Rattle.hv_plan.specs.declared.prediction.Mv.{Mv}
use Rattle.hv_search.specs.Numbers.{ShowFull, AreFound, no_vector}
use Rattle.hv_search.proofs.BlockLemmas.{whole_shown, whole_found, fraction_found, whole_near}
use Rattle.hv_search.proofs.block.put_block.Goals as goal

-- what keys show, with planes written otherwise
shows_as : (p q input reference : Plane) (x y : ℕ) (centre : Mv) (keys : List ℕ) → p ≡ input → q ≡ reference →
    ShowFull p q x y centre keys → ShowFull input reference x y centre keys
shows_as p q input reference x y centre keys e f shows =
    subst (λ a. ShowFull a reference x y centre keys) e (subst (λ a. ShowFull p a x y centre keys) f shows)

pub finish-requires-clause-near : goal.finish-requires-clause-near
finish-requires-clause-near c = λ n below inside.
    let input : Plane = c.args.input.now in
    let reference : Plane = c.args.reference.now in
    let centre : Mv = c.quadrupled-centre.result in
    let keys : List ℕ = c.full_keys-keys.result in
    whole_near input reference c.args.x c.args.y centre keys n (slice_index_or c.put_whole.new.vectors n no_vector)
    (shows_as _ _ input reference c.args.x c.args.y centre keys c.grid_of.ensures c.grid_of-2.ensures c.full_keys-keys.ensures) below inside
    (c.put_whole.ensures.each n below)

pub returns-then-effort-lt2-clause-found : goal.returns-then-effort-lt2-clause-found
returns-then-effort-lt2-clause-found c =
    let input : Plane = c.args.input.now in
    let reference : Plane = c.args.reference.now in
    let centre : Mv = c.quadrupled-centre.result in
    let keys : List ℕ = c.full_keys-keys.result in
    let vectors : List Mv = c.put_whole.new.vectors in
    subst (λ v. AreFound c.args.effort input reference v c.args.x c.args.y 85 vectors) c.quadrupled-centre.ensures
    (λ n below inside.
    whole_found c.args.effort input reference c.args.x c.args.y centre n (slice_index_or vectors n no_vector) c.if-effort-lt2.true
    (whole_shown input reference c.args.x c.args.y centre keys n (slice_index_or vectors n no_vector)
    (shows_as _ _ input reference c.args.x c.args.y centre keys c.grid_of.ensures c.grid_of-2.ensures c.full_keys-keys.ensures) below inside
    (c.put_whole.ensures.each n below)))

pub returns-clause-found : goal.returns-clause-found
returns-clause-found c =
    let input : Plane = c.args.input.now in
    let reference : Plane = c.args.reference.now in
    let centre : Mv = c.quadrupled-centre.result in
    let keys : List ℕ = c.full_keys-keys.result in
    let whole : List Mv = c.put_whole.new.vectors in
    let vectors : List Mv = c.finish.new.vectors in
    subst (λ v. AreFound c.args.effort input reference v c.args.x c.args.y 85 vectors) c.quadrupled-centre.ensures
    (λ n below inside.
    fraction_found c.args.effort input reference c.args.x c.args.y centre n
    (slice_index_or vectors n no_vector) (slice_index_or whole n no_vector) (omega (arith, c.if-effort-lt2.false))
    (whole_shown input reference c.args.x c.args.y centre keys n (slice_index_or whole n no_vector)
    (shows_as _ _ input reference c.args.x c.args.y centre keys c.grid_of.ensures c.grid_of-2.ensures c.full_keys-keys.ensures) below inside
    (c.put_whole.ensures.each n below))
    (c.finish.ensures.each n below inside))
