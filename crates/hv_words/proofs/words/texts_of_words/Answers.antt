-- One word more.
use Rattle.hv_words.specs.Command.{program_name}
use Rattle.hv_words.proofs.ReadingLemmas.{one_word_more}
use Rattle.hv_words.proofs.words.texts_of_words.Goals as goal

pub loop-i-preserved : goal.loop-i-preserved
loop-i-preserved c =
    one_word_more program_name c.args.words.now c.loop-i.i c.loop-i.texts.items _ c.word.result c.loop-i.invariant c.in_ok-push-2.ensures.items
    c.word.ensures
