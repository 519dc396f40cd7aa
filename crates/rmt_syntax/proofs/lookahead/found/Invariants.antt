use Rattle.rmt_syntax.proofs.Words.{◌≡◌, drop, map, find, Form, may_begin}
use Rattle.rmt_syntax.proofs.lookahead.found.Given as goal

abbrev pub invariant-loop-form : goal.invariant-loop-form
invariant-loop-form l =
    find (λ (form : Form). may_begin form l.terminal) (map (λ c. (c.parts.now, c.then)) (drop l.form-index l.forms))
    ≡ find (λ (form : Form). may_begin form l.terminal) (map (λ c. (c.parts.now, c.then)) l.forms)
