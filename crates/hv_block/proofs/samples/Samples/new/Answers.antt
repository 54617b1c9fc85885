use Rattle.hv_block.specs.Samples.{samples_of_lists}
use Rattle.hv_block.proofs.samples.Samples.new.Goals as goal

pub returns : goal.returns
returns c = λ i.
    samples_of_lists (c.in_ok-luma.ensures.items_if_clones_equal (λ y same. same) i)
    (c.in_ok-cb.ensures.items_if_clones_equal (λ y same. same) i)
    (c.in_ok-cr.ensures.items_if_clones_equal (λ y same. same) i)
