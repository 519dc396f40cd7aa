use Rattle.std.proofs.Common.{◌≡◌, ℕ, List, [], ◌<◌, All, Contains, length, get_or, subst, ap, ◌∙◌}
use Rattle.std.specs.Prelude.{IfSome}
use Rattle.std.proofs.lemmas.List.{get_or_default}
use Rattle.rmt_cuckoo.specs.declared.choices.Choices.{Choices}
use Rattle.rmt_cuckoo.specs.declared.way.Way.{Way}
use Rattle.rmt_cuckoo.specs.Choices.{choices_at, rows_in}
use Rattle.rmt_cuckoo.proofs.choices.Choices.free_cell.Goals as goal

-- the rows of a key, however it is read from the list
rows_are : (s : Choices) (ways : List Way) (key : ℕ) (d : List ℕ) → ways ≡ s.ways.items → key < length s.keys.now
    → rows_in s.seed ways (get_or s.keys.now key d) ≡ choices_at s key
rows_are s ways key d are lt =
    ap (λ (ws : List Way). rows_in s.seed ws (get_or s.keys.now key d)) are
    ∙ ap (rows_in s.seed s.ways.items) (get_or_default s.keys.now key d [] lt)

pub returns-clause-chosen : goal.returns-clause-chosen
returns-clause-chosen c =
    subst (λ (cs : List ℕ). IfSome c.free_in_rows.result (λ x. Contains cs x))
    (rows_are c.args.self.now c.as_slice.result.now c.args.key c.index-self-key.result c.as_slice.ensures.value c.requires.known)
    c.free_in_rows.ensures.chosen

pub returns-clause-none : goal.returns-clause-none
returns-clause-none c = λ none.
    subst (All (λ x. 0 < get_or c.args.holders.now x 0))
    (rows_are c.args.self.now c.as_slice.result.now c.args.key c.index-self-key.result c.as_slice.ensures.value c.requires.known)
    (c.free_in_rows.ensures.none none)
