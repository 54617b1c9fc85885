-- The last byte that is pushed is the last of the payload.
use Rattle.std.proofs.Common.{◌≡◌, ◌++◌, ◌∷◌, [], arith, ap, ◌∙◌}
use Rattle.hv_stream_model.specs.Units.{last_of}
use Rattle.hv_stream_model.proofs.FieldLemmas.{last_of-append}
use Rattle.hv_speed.proofs.streams.noise_payload.Goals as goal

pub returns : goal.returns
returns c =
    let stored : c.push-2.new.self.items ≡ c.loop.payload.items ++ 128 ∷ [] =
    c.in_ok-push-2.ensures.items in
    let ends : last_of c.push-2.new.self.items ≡ 128 = ap last_of stored ∙
    last_of-append c.loop.payload.items 128 in
    λ h. omega (arith, ends, h)
