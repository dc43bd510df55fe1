use Rattle.crack_commands.proofs.Splitting.{first_word}
use Rattle.crack_commands.proofs.words.next_word.Goals as goal

pub returns : goal.returns
returns c = rw (c.split_at.ensures.front, c.split_at.ensures.back)
    (first_word c.args.bytes.now c.without_spaces-word.result.now c.word_end-end.result c.without_spaces-word.ensures.words c.without_spaces-word.ensures.front c.word_end-end.ensures.within c.word_end-end.ensures.none c.word_end-end.ensures.space)
