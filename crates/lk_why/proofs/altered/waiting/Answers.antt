use Rattle.lk_why.proofs.Ready.{words_few}
use Rattle.lk_why.proofs.altered.waiting.Goals as goal

pub waits-requires : goal.waits-requires
waits-requires c = words_few c.args.shape c.args.words.now c.requires.words
