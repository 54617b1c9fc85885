-- Plans keep their shape when units of theirs are written.
use Rattle.std.proofs.Common.{◌≡◌, ℕ, ◌+◌, List, ◌++◌, length, take, drop, replicate, arith, ◌∙◌, sym, ap, subst, take_at}
use Rattle.std.specs.Prelude.{All, ℤ, pos}
use Rattle.std.proofs.lemmas.List.Elements.{All-append, All-take, All-drop, All-replicate}
use Rattle.hv_plan.specs.declared.prediction.Unit.{Unit}
use Rattle.hv_block.specs.Plans.{IsWholePlan, HasDepth, with_units, plan_of_lists, opening_plan, opening_unit}

pub All-with_units : (units : List Unit) (from count : ℕ) (unit : Unit) → All HasDepth units →
    HasDepth unit → All HasDepth (with_units units from count unit)
All-with_units units from count unit all here =
    All-append HasDepth (take from units) (replicate count unit ++ drop (from + count) units)
    (All-take HasDepth from units all)
    (All-append HasDepth (replicate count unit) (drop (from + count) units)
    (All-replicate HasDepth count unit here)
    (All-drop HasDepth (from + count) units all))

-- The plan after units were written through a loan of their list.
pub IsWholePlan-written : (old new : List Unit) (luma cb cr : List ℤ) (places : ℕ) →
    IsWholePlan (plan_of_lists old luma cb cr) → places ≡ length old → length new ≡ length old →
    All HasDepth new →
    IsWholePlan (plan_of_lists (take places (new ++ drop (length new) old)) luma cb cr)
IsWholePlan-written old new luma cb cr places whole all long deep =
    let kept : take places (new ++ drop (length new) old) ≡ new =
    take_at new (drop (length new) old) places (omega (arith, long, all)) in
    record {
      units = ap length kept ∙ long ∙ whole.units;
      depths = subst (All HasDepth) (sym kept) deep;
      luma = whole.luma;
      cb = whole.cb;
      cr = whole.cr;
    }

-- Lists that all hold the first value.
pub opened : (units : List Unit) (luma cb cr : List ℤ) → units ≡ replicate 64 opening_unit →
    luma ≡ replicate 4096 (pos 0) → cb ≡ replicate 1024 (pos 0) → cr ≡ replicate 1024 (pos 0) →
    plan_of_lists units luma cb cr ≡ opening_plan
opened units luma cb cr u l b r = λ i. plan_of_lists (u i) (l i) (b i) (r i)
