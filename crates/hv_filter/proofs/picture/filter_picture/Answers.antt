use Rattle.std.proofs.Common.{◌≡◌, ◌*◌, ◌/◌, ◌∙◌, sym, ap, arith}
use Rattle.hv_types.specs.declared.settings.Settings.{Settings}
use Rattle.hv_types.specs.Configuration.{padded_width, padded_height}
use Rattle.hv_filter.specs.JoinedPicture.{squares_of_blocks}
use Rattle.hv_filter.specs.FilteredPicture.{picture_qp}
use Rattle.hv_filter.proofs.FilterLemmas.{joined_in_squares, deblocked_own_sides, qp_is, working_is, sao_is, shown_is, all_written, working_stays, shown_stays, count_stays}
use Rattle.hv_filter.proofs.picture.filter_picture.Goals as goal

pub deblock-requires-clause-picture : goal.deblock-requires-clause-picture
deblock-requires-clause-picture g c =
    joined_in_squares c.args.frame.now.working.luma.width c.args.frame.now.working.luma.height
    c.padded_width.result c.padded_height.result (g.B.Blocks.blocks c.args.blocks.now)
    c.join_picture.new.picture c.join_picture.ensures
    (c.requires.working.luma.wide
    ∙ sym (c.padded_width.ensures.value ∙ ap padded_width c.config-config.ensures))
    (c.requires.working.luma.high
    ∙ sym (c.padded_height.ensures.value ∙ ap padded_height c.config-config.ensures))
    c.padded_width.ensures.least c.padded_height.ensures.least c.padded_width.ensures.whole
    c.padded_height.ensures.whole

pub choose_offsets-requires-clause-deblocked : goal.choose_offsets-requires-clause-deblocked
choose_offsets-requires-clause-deblocked g c =
    deblocked_own_sides c.qp-qp.result (8 * (c.padded_width.result / 8))
    (8 * (c.padded_height.result / 8))
    (squares_of_blocks (8 * (c.padded_width.result / 8)) (g.B.Blocks.blocks c.args.blocks.now))
    c.join_picture.new.picture c.deblock.new.picture c.deblock.ensures
    (joined_in_squares c.args.frame.now.working.luma.width c.args.frame.now.working.luma.height
    c.padded_width.result c.padded_height.result (g.B.Blocks.blocks c.args.blocks.now)
    c.join_picture.new.picture c.join_picture.ensures
    (c.requires.working.luma.wide
    ∙ sym (c.padded_width.ensures.value ∙ ap padded_width c.config-config.ensures))
    (c.requires.working.luma.high
    ∙ sym (c.padded_height.ensures.value ∙ ap padded_height c.config-config.ensures))
    c.padded_width.ensures.least c.padded_height.ensures.least c.padded_width.ensures.whole
    c.padded_height.ensures.whole)

pub apply_sao-requires-clause-deblocked : goal.apply_sao-requires-clause-deblocked
apply_sao-requires-clause-deblocked g c =
    deblocked_own_sides c.qp-qp.result (8 * (c.padded_width.result / 8))
    (8 * (c.padded_height.result / 8))
    (squares_of_blocks (8 * (c.padded_width.result / 8)) (g.B.Blocks.blocks c.args.blocks.now))
    c.join_picture.new.picture c.deblock.new.picture c.deblock.ensures
    (joined_in_squares c.args.frame.now.working.luma.width c.args.frame.now.working.luma.height
    c.padded_width.result c.padded_height.result (g.B.Blocks.blocks c.args.blocks.now)
    c.join_picture.new.picture c.join_picture.ensures
    (c.requires.working.luma.wide
    ∙ sym (c.padded_width.ensures.value ∙ ap padded_width c.config-config.ensures))
    (c.requires.working.luma.high
    ∙ sym (c.padded_height.ensures.value ∙ ap padded_height c.config-config.ensures))
    c.padded_width.ensures.least c.padded_height.ensures.least c.padded_width.ensures.whole
    c.padded_height.ensures.whole)

pub returns-clause-working : goal.returns-clause-working
returns-clause-working g c =
    let wide : c.padded_width.result ≡ padded_width c.args.group.now.input.config =
    c.padded_width.ensures.value ∙ ap padded_width c.config-config.ensures in
    let quantiser : c.qp-qp.result ≡ picture_qp c.args.group.now.input c.args.picture =
    qp_is c.settings-settings.result.qp c.args.group.now.structure.count
    c.args.group.now.structure.levels c.qp-qp.result c.args.picture c.args.group.now.input
    c.qp-qp.ensures.value
    (ap (λ (s : Settings). s.qp) (c.settings-settings.ensures.value ∙ c.config-config.ensures))
    c.args.group.now.count c.args.group.now.levels in
    working_is c.args.group.now.input c.args.picture c.qp-qp.result
    c.args.frame.now.working.luma.width c.args.frame.now.working.luma.height
    (8 * (c.padded_width.result / 8)) (g.B.Blocks.blocks c.args.blocks.now)
    c.join_picture.new.picture c.deblock.new.picture quantiser c.join_picture.ensures
    c.requires.working.luma.wide c.requires.working.luma.high
    (omega (arith, wide, c.padded_width.ensures.whole)) c.deblock.ensures

pub returns-clause-sao : goal.returns-clause-sao
returns-clause-sao g c =
    let quantiser : c.qp-qp.result ≡ picture_qp c.args.group.now.input c.args.picture =
    qp_is c.settings-settings.result.qp c.args.group.now.structure.count
    c.args.group.now.structure.levels c.qp-qp.result c.args.picture c.args.group.now.input
    c.qp-qp.ensures.value
    (ap (λ (s : Settings). s.qp) (c.settings-settings.ensures.value ∙ c.config-config.ensures))
    c.args.group.now.count c.args.group.now.levels in
    all_written c.args.frame.now.sao.items c.choose_offsets.new.sao c.args.frame.now.sao.len
    (omega (arith, c.choose_offsets.auto.sao, c.deref_mut.ensures.len))
    ∙ sao_is c.args.group.now.input c.args.picture c.settings-settings.result.effort
    c.qp-qp.result (g.B.Blocks.blocks c.args.blocks.now) c.picture-input.result.now
    c.deblock.new.picture c.choose_offsets.new.sao
    (ap (λ (s : Settings). s.effort)
    (c.settings-settings.ensures.value ∙ c.config-config.ensures))
    quantiser c.picture-input.ensures.value (returns-clause-working g c)
    c.choose_offsets.ensures.value

pub returns-clause-shown : goal.returns-clause-shown
returns-clause-shown g c =
    shown_is c.args.group.now.input c.args.picture (g.B.Blocks.blocks c.args.blocks.now)
    c.deblock.new.picture c.apply_sao.new.shown c.deref.result.now c.apply_sao.ensures
    (returns-clause-working g c) (c.deref.ensures.value ∙ returns-clause-sao g c)

pub returns-clause-shown_padded : goal.returns-clause-shown_padded
returns-clause-shown_padded g c =
    shown_stays c.args.group.now.input c.args.picture (g.B.Blocks.blocks c.args.blocks.now)
    c.args.frame.now.working c.requires.working c.apply_sao.new.shown (returns-clause-shown g c)

pub returns-clause-working_padded : goal.returns-clause-working_padded
returns-clause-working_padded g c =
    working_stays c.args.group.now.input c.args.picture (g.B.Blocks.blocks c.args.blocks.now)
    c.args.frame.now.working c.requires.working c.deblock.new.picture
    (returns-clause-working g c)

pub returns-clause-count : goal.returns-clause-count
returns-clause-count g c =
    count_stays c.args.group.now.input c.args.picture (g.B.Blocks.blocks c.args.blocks.now) _
    (returns-clause-sao g c)
