use Rattle.std.proofs.Common.{◌≡◌, length, ℕ, ◌+◌, ◌-◌, List, drop, ap, sym, ◌∙◌, arith}
use Rattle.std.specs.List.{flat_map}
use Rattle.std.proofs.lemmas.List.{length-take-le, length-drop}
use Rattle.hv_types.specs.Video.{raw}
use Rattle.hv_synth.specs.Generator.{generated}
use Rattle.hv_synth.specs.Runs.{byte_of}
use Rattle.hv_synth.proofs.RunLemmas.{total_is, reads_run}
use Rattle.hv_synth.proofs.synth.SynthSource.read.Goals as goal

pub overflow_sub-total : goal.overflow_sub-total
overflow_sub-total c =
    let total = total_is c.self.inside.config c.settings-settings.result c.in-Some.spec
    c.picture_bytes.result c.from.result c.settings-settings.ensures.value
    c.settings-settings.ensures.ranges c.in-Some.is c.picture_bytes.ensures.value c.from.ensures in
    omega (arith, total.all, c.self.invariant)

pub fill-requires-clause-there : goal.fill-requires-clause-there
fill-requires-clause-there c =
    let n : ℕ = c.min-count.result in
    let total = total_is c.self.inside.config c.settings-settings.result c.in-Some.spec
    c.picture_bytes.result c.from.result c.settings-settings.ensures.value
    c.settings-settings.ensures.ranges c.in-Some.is c.picture_bytes.ensures.value c.from.ensures in
    omega (
      arith,
      total.all,
      total.of_settings,
      c.self.invariant,
      length-take-le n c.args.into.now (omega arith),
    )

pub invariant_of-self : goal.invariant_of-self
invariant_of-self c =
    let total = total_is c.self.inside.config c.settings-settings.result c.in-Some.spec
    c.picture_bytes.result c.from.result c.settings-settings.ensures.value
    c.settings-settings.ensures.ranges c.in-Some.is c.picture_bytes.ensures.value c.from.ensures in
    omega (arith, total.all, c.self.invariant)

pub returns-clause-ok : goal.returns-clause-ok
returns-clause-ok c =
    let n : ℕ = c.min-count.result in
    let all : List ℕ = flat_map raw (generated c.self.inside.config) in
    let total = total_is c.self.inside.config c.settings-settings.result c.in-Some.spec
    c.picture_bytes.result c.from.result c.settings-settings.ensures.value
    c.settings-settings.ensures.ranges c.in-Some.is c.picture_bytes.ensures.value c.from.ensures in
    let size : length c.fill.new.into ≡ n = c.fill.auto.into ∙ length-take-le n c.args.into.now
    (omega arith) in
    reads_run all c.args.self.now c.fill.new.into (drop n c.args.into.now) c.self.inside.at n
    (sym c.self.view_is) (omega (arith, total.all, c.self.invariant)) size
    (λ none. omega (arith, total.all, c.requires))
    (λ k below. c.fill.ensures k below
    ∙ ap (λ s. byte_of s (c.self.inside.at + k)) c.settings-settings.ensures.value)

pub returns-clause-whole : goal.returns-clause-whole
returns-clause-whole c =
    let all : List ℕ = flat_map raw (generated c.self.inside.config) in
    let total = total_is c.self.inside.config c.settings-settings.result c.in-Some.spec
    c.picture_bytes.result c.from.result c.settings-settings.ensures.value
    c.settings-settings.ensures.ranges c.in-Some.is c.picture_bytes.ensures.value c.from.ensures in
    let left : length c.args.self.now ≡ length all - c.self.inside.at =
    ap length (sym c.self.view_is) ∙ length-drop c.self.inside.at all in
    omega (arith, total.all, left, c.min-count.ensures)
