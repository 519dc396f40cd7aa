use Rattle.std.proofs.Common.{◌≡◌, ◌||◌, Bool, true, false, refl, ap, sym, ◌∙◌}
use Rattle.rmt_ast.specs.declared.deps.EdgeKind.{EdgeKind}
use Rattle.rmt_deps.specs.Edges.{depends, meet, keys_of, reads_of, writes_of, words_of_fields}
use Rattle.rmt_deps.proofs.edges.depends.Goals as goal

-- one test after another
first_holds : (m a b : Bool) → m ≡ a → m ≡ true → m ≡ (a || b)
first_holds m a b is holds = let a_is : a ≡ true = sym is ∙ holds in rw (holds, a_is) refl

first_fails : (m n a b : Bool) → m ≡ a → m ≡ false → n ≡ b → n ≡ (a || b)
first_fails m n a b is fails second = let a_is : a ≡ false = sym is ∙ fails in rw a_is second

pub returns-in-Match : goal.returns-in-Match
returns-in-Match c = λ p places to first second.
    c.meet.ensures (writes_of p c.args.from) (keys_of p to) first.writes second.keys ∙ sym (ap (λ (k : EdgeKind). depends p places k c.args.from to) c.in-Match.is)

pub returns-then-meet : goal.returns-then-meet
returns-then-meet c = λ p places to first second.
    let a = c.args.from in
    first_holds c.meet-in-Action.result (meet (writes_of p a) (reads_of p to)) (meet (writes_of p a) (writes_of p to)) (c.meet-in-Action.ensures (writes_of p a) (reads_of p to) first.writes second.reads) c.if-meet.true
    ∙ sym (ap (λ (k : EdgeKind). depends p places k a to) c.in-Action.is)

pub returns-else-meet : goal.returns-else-meet
returns-else-meet c = λ p places to first second.
    let a = c.args.from in
    first_fails c.meet-in-Action.result c.meet-else-meet.result (meet (writes_of p a) (reads_of p to)) (meet (writes_of p a) (writes_of p to)) (c.meet-in-Action.ensures (writes_of p a) (reads_of p to) first.writes second.reads) c.if-meet.false
    (c.meet-else-meet.ensures (writes_of p a) (writes_of p to) first.writes second.writes)
    ∙ sym (ap (λ (k : EdgeKind). depends p places k a to) c.in-Action.is)

pub returns-then-meet-2 : goal.returns-then-meet-2
returns-then-meet-2 c = λ p places to first second.
    let a = c.args.from in
    first_holds c.meet-in-Reverse.result (meet (writes_of p to) (keys_of p a)) (meet (writes_of p to) (reads_of p a)) (c.meet-in-Reverse.ensures (writes_of p to) (keys_of p a) second.writes first.keys) c.if-meet-2.true
    ∙ sym (ap (λ (k : EdgeKind). depends p places k a to) c.in-Reverse.is)

pub returns-else-meet-2 : goal.returns-else-meet-2
returns-else-meet-2 c = λ p places to first second.
    let a = c.args.from in
    first_fails c.meet-in-Reverse.result c.meet-else-meet-2.result (meet (writes_of p to) (keys_of p a)) (meet (writes_of p to) (reads_of p a)) (c.meet-in-Reverse.ensures (writes_of p to) (keys_of p a) second.writes first.keys) c.if-meet-2.false
    (c.meet-else-meet-2.ensures (writes_of p to) (reads_of p a) second.writes first.reads)
    ∙ sym (ap (λ (k : EdgeKind). depends p places k a to) c.in-Reverse.is)

pub returns-in-Word : goal.returns-in-Word
returns-in-Word c = λ p places to first second.
    c.meet-in-Word.ensures (words_of_fields places (writes_of p c.args.from)) (words_of_fields places (writes_of p to)) first.words second.words
    ∙ sym (ap (λ (k : EdgeKind). depends p places k c.args.from to) c.in-Word.is)
