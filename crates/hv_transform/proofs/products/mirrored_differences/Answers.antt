use Rattle.hv_transform.proofs.ColumnLaneLemmas.{lanes_mirrored}
use Rattle.hv_transform.proofs.products.mirrored_differences.Goals as goal

pub returns : goal.returns
returns c = λ f g h k. lanes_mirrored f g c.args.a c.args.b h k
