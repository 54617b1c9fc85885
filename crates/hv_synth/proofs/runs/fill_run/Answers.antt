use Rattle.std.proofs.Common.{ℕ, ◌≡◌, ◌+◌, ◌*◌, ◌/◌, ◌%◌, ◌<◌, length, drop, refl, sym, ◌∙◌, ap, arith}
use Rattle.std.proofs.lemmas.List.{length-take-le}
use Rattle.hv_types.specs.Configuration.{picture_bytes}
use Rattle.hv_types.proofs.ConfigurationLemmas.{picture_bytes-least}
use Rattle.hv_synth.specs.Runs.{byte_of, sample_of}
use Rattle.hv_synth.proofs.GeneratorLemmas.{samples_run}
use Rattle.hv_synth.proofs.RunLemmas.{place_in_video, picture_in_video, run_in_front}
use Rattle.hv_synth.proofs.runs.fill_run.Goals as goal

pub returns-clause-run : goal.returns-clause-run
returns-clause-run c =
    let s = c.args.settings.now in
    let spot = c.spot_at-spot.result in
    let t : ℕ = c.args.at / c.from-size.result in
    let place : ℕ = c.args.at % c.from-size.result in
    let n : ℕ = c.min-n.result in
    let there : t < c.args.spec.pictures = picture_in_video c.args.at c.from-size.result (picture_bytes s)
    c.args.spec.pictures c.from-size.ensures (omega (arith, picture_bytes-least s c.requires.generates.valid))
    c.requires.there in
    let at : t * picture_bytes s + place ≡ c.args.at =
    place_in_video c.args.at c.from-size.result (picture_bytes s) place c.from-size.ensures refl in
    let long : length c.fill_samples.new.into ≡ n =
    c.fill_samples.auto.into ∙ length-take-le n c.args.into.now (omega arith) in
    run_in_front n (λ k. sample_of spot.component c.args.spec.seed t (spot.column + k) spot.row)
    (λ k. byte_of s (c.args.at + k)) c.fill_samples.new.into (drop n c.args.into.now) long
    c.fill_samples.ensures
    (λ k below. ap (λ i. byte_of s (i + k)) (sym at)
    ∙ samples_run s c.args.spec spot.component t spot.column spot.row place n k c.requires.generates
    there c.spot_at-spot.ensures.place (omega arith) below)
