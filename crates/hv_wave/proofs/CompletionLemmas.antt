-- A wave never sticks: the first segment that isn't done is taken or ready, since it waits for earlier ones alone.
use Rattle.std.proofs.Common.{◌≡◌, ℕ, zero, suc, ◌+◌, ◌-◌, ◌*◌, ◌/◌, ◌%◌, ◌<◌, ◌≤◌, ap, refl, min, length, arith, inl, inr}
use Rattle.std.specs.Prelude.{◌⊎◌}
use Rattle.std.proofs.lemmas.Nat.{div-add-mod', mod_below}
use Rattle.hv_wave.specs.Segments.{Stage, Waiting, Taken, Done, Wave, above, covering, column_behind, per_row, stage, WavesGoOn}
use Rattle.hv_wave.proofs.SegmentLemmas.{covering_behind}

stage_cases : (x : Stage) → (x ≡ Waiting) ⊎ ((x ≡ Taken) ⊎ (x ≡ Done))
stage_cases Waiting = inl refl
stage_cases Taken = inr (inl refl)
stage_cases Done = inr (inr refl)

-- the one above right comes earlier
row_before : (r per n : ℕ) → 0 < r → n < per → (r - 1) * per + n < r * per
row_before zero per n some below = absurd (omega arith)
row_before (suc r) per n some below =
    let back : suc r - 1 ≡ r = omega arith in
    let e : (suc r - 1) * per ≡ r * per = ap (λ m. m * per) back in
    omega arith

above-lt : (w : Wave) (s : ℕ) → 1 ≤ w.columns → 1 ≤ w.segment → 0 < s / per_row w.columns w.segment → above w s < s
above-lt w s wide long some =
    let per : ℕ = per_row w.columns w.segment in
    let split : s / per * per + s % per ≡ s = div-add-mod' s per in
    let at : covering w.segment (column_behind w s) ≡ min (s % per + 1) (per - 1) =
    covering_behind w.columns w.segment (s % per) wide long (mod_below s per (omega arith)) in
    let before : (s / per - 1) * per + covering w.segment (column_behind w s) < s / per * per =
    row_before (s / per) per (covering w.segment (column_behind w s)) some (omega (arith, at)) in
    omega arith

pub goes_on : WavesGoOn
goes_on w wide long none_taken none_ready s there = all_below (s + 1) s (omega arith) there
  where
    by_stage : (s : ℕ) → s < length w.stages → ((t : ℕ) → t < s → t < length w.stages → stage w t ≡ Done) →
        (stage w s ≡ Waiting) ⊎ ((stage w s ≡ Taken) ⊎ (stage w s ≡ Done)) → stage w s ≡ Done
    by_stage s there earlier (inl waiting) = absurd (none_ready s there record {
      there = there;
      waiting = waiting;
      left = λ some. earlier (s - 1) (left_before s some) (omega arith);
      above = λ some. earlier (above w s) (above-lt w s wide long some)
          (let before : above w s < s = above-lt w s wide long some in omega arith);
    })
      where
        left_before : (s : ℕ) → 0 < s % per_row w.columns w.segment → s - 1 < s
        left_before s some =
            let split : s / per_row w.columns w.segment * per_row w.columns w.segment
            + s % per_row w.columns w.segment ≡ s = div-add-mod' s (per_row w.columns w.segment) in
            omega arith
    by_stage s there earlier (inr (inl taken)) = absurd (none_taken s there taken)
    by_stage s there earlier (inr (inr done)) = done

    all_below : (n t : ℕ) → t < n → t < length w.stages → stage w t ≡ Done
    all_below zero t below there = absurd (omega arith)
    all_below (suc n) t below there =
        by_stage t there (λ u before inside. all_below n u (omega arith) inside) (stage_cases (stage w t))
