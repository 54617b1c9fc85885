-- There is one block, which may be coded as it is.
use Rattle.std.proofs.Common.{◌≡◌, ◌∷◌, ◌++◌, [], refl, ap, ◌∙◌}
use Rattle.std.specs.Prelude.{length}
use Rattle.hv_types.specs.declared.settings.Settings.{Settings}
use Rattle.hv_stream_model.specs.Headers.{used_count}
use Rattle.hv_slice_model.specs.Slices.{header_in}
use Rattle.hv_slice_model.specs.BlankUnits.{no_offsets}
use Rattle.hv_near.specs.Neighbours.{lists_of_plan}
use Rattle.hv_packet.specs.BlockPlans.{plans_of}
use Rattle.hv_packet.proofs.OneBlockLemmas.{opening, counted_there, names_there, valid_there}
use Rattle.hv_packet.proofs.tests.unit_from_block.Goals as goal

pub code_picture-requires-clause-blocks : goal.code_picture-requires-clause-blocks
code_picture-requires-clause-blocks c =
    let cfg = c.in_ok-group.group.input.config in
    let same = c.in_ok-group.ensures.config in
    let items : c.push.new.self.items ≡ c.in_ok-block.block ∷ [] =
    c.in_ok-push.ensures.items ∙
    ap (λ xs. xs ++ c.in_ok-block.block ∷ []) c.new-blocks.ensures.items in
    counted_there cfg (ap (λ (s : Settings). s.width) same ∙ c.requires.width)
    (ap (λ (s : Settings). s.height) same ∙ c.requires.height) c.push.new.self.items
    c.in_ok-block.block items

pub code_picture-requires-clause-offsets : goal.code_picture-requires-clause-offsets
code_picture-requires-clause-offsets c =
    let same = c.in_ok-group.ensures.config in
    counted_there c.in_ok-group.group.input.config
    (ap (λ (s : Settings). s.width) same ∙ c.requires.width)
    (ap (λ (s : Settings). s.height) same ∙ c.requires.height) (no_offsets ∷ []) no_offsets refl

pub code_picture-requires-clause-names : goal.code_picture-requires-clause-names
code_picture-requires-clause-names c =
    let same = c.in_ok-group.ensures.config in
    let items : c.push.new.self.items ≡ c.in_ok-block.block ∷ [] =
    c.in_ok-push.ensures.items ∙
    ap (λ xs. xs ++ c.in_ok-block.block ∷ []) c.new-blocks.ensures.items in
    let plans : plans_of c.push.new.self.items ≡ opening ∷ [] =
    ap plans_of items ∙ ap (λ p. lists_of_plan p ∷ []) c.in_ok-block.ensures.plan in
    names_there c.in_ok-group.group.input.config
    (ap (λ (s : Settings). s.width) same ∙ c.requires.width)
    (ap (λ (s : Settings). s.height) same ∙ c.requires.height)
    (plans_of c.push.new.self.items) plans

pub code_picture-requires-clause-valid : goal.code_picture-requires-clause-valid
code_picture-requires-clause-valid c =
    let group = c.in_ok-group.group in
    let cfg = group.input.config in
    let header = header_in cfg (length group.input.pictures) c.args.picture in
    let same = c.in_ok-group.ensures.config in
    let items : c.push.new.self.items ≡ c.in_ok-block.block ∷ [] =
    c.in_ok-push.ensures.items ∙
    ap (λ xs. xs ++ c.in_ok-block.block ∷ []) c.new-blocks.ensures.items in
    let plans : plans_of c.push.new.self.items ≡ opening ∷ [] =
    ap plans_of items ∙ ap (λ p. lists_of_plan p ∷ []) c.in_ok-block.ensures.plan in
    valid_there cfg (ap (λ (s : Settings). s.width) same ∙ c.requires.width)
    (ap (λ (s : Settings). s.height) same ∙ c.requires.height) header.slice_type
    (used_count header.references) (plans_of c.push.new.self.items)
    (no_offsets ∷ []) plans refl
