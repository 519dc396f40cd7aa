use Rattle.rmt_syntax.proofs.Words.{sym, ap, ◌∙◌, word_terminal, terminal_of}
use Rattle.rmt_syntax.proofs.terminal.terminal_of.Goals as goal

pub returns-in-Word : goal.returns-in-Word
returns-in-Word c = c.word_terminal.ensures ∙ ap word_terminal c.as_slice.ensures ∙ ap terminal_of (sym c.in-Word.is)
