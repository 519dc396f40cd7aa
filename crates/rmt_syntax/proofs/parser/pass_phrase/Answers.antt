use Rattle.rmt_syntax.proofs.Words.{◌∙◌, sym, ap, same_Some, Token, terminal_of}
use Rattle.rmt_syntax.proofs.BeforeLaws.{operand_is}
use Rattle.rmt_syntax.proofs.parser.pass_phrase.Goals as goal

pub take_operand-requires-clause-then : goal.take_operand-requires-clause-then
take_operand-requires-clause-then c = (operand_is c.args.reader.now.inner.then c.terminal_of.result (sym c.is_operand_name.ensures ∙ c.if-is_operand_name.true)).0

pub take_operand-requires-clause-name : goal.take_operand-requires-clause-name
take_operand-requires-clause-name c t here =
    ap (λ (v : Token). terminal_of v.what) (same_Some t c.token_at.result.now (sym here ∙ c.token_at.ensures)) ∙ sym c.terminal_of.ensures
    ∙ (operand_is c.args.reader.now.inner.then c.terminal_of.result (sym c.is_operand_name.ensures ∙ c.if-is_operand_name.true)).1
