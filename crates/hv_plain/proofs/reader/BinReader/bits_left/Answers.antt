use Rattle.std.proofs.Common.{ap, ◌∙◌, length}
use Rattle.hv_plain.proofs.PlainLemmas.{length_left}
use Rattle.hv_plain.proofs.reader.BinReader.bits_left.Goals as goal

pub returns : goal.returns
returns c =
    length_left c.self.inside.bytes.now c.self.inside.at ∙ ap (λ d. length d.bits) c.self.view_is
