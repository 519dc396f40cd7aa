-- Each list of tokens has a tree or a fault, and not both; and it has one fault alone.
use Rattle.rmt_syntax.proofs.Words.{cases_Bool, Part, ◌≡◌, ◌∙◌, ◌⊎◌, inl, inr, ℕ, zero, suc, ◌+◌, ◌<◌, ◌≤◌, sym, ap, refl, subst, List, [], ◌∷◌, ◌++◌, Option, Some, None, take, drop, length, arith, append_assoc, append-nil, slice_get, slice_get_within, same_Some, length-take-le, eqb_tells, leb_tells, EndsOnce, Token, Terminal, Rule, One, Node, Phrase, Whole, Done, Form, terminal_of, Mark, leaf, opens, shuts, tokens_in, Goal, part, phrase, shut, Reads, IsText, IsNested, IsFront, depth_of, depth_after, TooDeep, IsFaultAt, IsTreeOf, HasTree, HasFault, Answers, Gives, ProgramFault, NoMemory, At, Result, Ok, Err, marks, take-append-drop, take_all, length-append, same, is_done, is_operand_name, choice_of, weight, IsBefore, slice_get-item}
use Rattle.rmt_syntax.proofs.Words.kind
use Rattle.rmt_syntax.proofs.Words.terminal
use Rattle.rmt_syntax.proofs.Words.rule
use Rattle.rmt_syntax.proofs.Machine.{tokens_append, goes_on, take_next, taken_further, nested_append, nested_now, room, after_node, after_one, take_stands, enter_stands, done_stands, shut_stands}
use Rattle.rmt_syntax.proofs.Choosing.{choose_stands, enter_lowers, choose_lowers}
use Rattle.rmt_syntax.proofs.Fronts.{done_is}
use Rattle.rmt_syntax.proofs.Cuts.{Leads, at_once, too_many}
use Rattle.rmt_syntax.proofs.BeforeLaws.{starts, text_is, tree_is, tree_alone, ends_at, operand_is}
use Rattle.rmt_syntax.proofs.Faults.{Fails, is_unexpected, is_too_deep, fails_none, fails_one, fails_block, fails_phrase}
use Rattle.rmt_syntax.proofs.Operands.{not_last, operand_by, name_leads, lone_stands, field_stands}
use Rattle.rmt_syntax.specs.declared.tree.Tree.{Tree}
use Rattle.rmt_syntax.proofs.Forests.{tree_of}
use Rattle.rmt_syntax.proofs.Produce.{has_text}
use Rattle.rmt_syntax.proofs.Sets.{same_or}

-- no token from the place on has a fault
abbrev NoneFrom : List Token → ℕ → Type 0
NoneFrom tokens at = (code k : ℕ) → at ≤ k → k < length tokens → IsFaultAt tokens code k → ⊥

-- nor has another one, nor this one another
abbrev OnlyFrom : List Token → ℕ → ℕ → ℕ → Type 0
OnlyFrom tokens at code k = (other j : ℕ) → at ≤ j → j < length tokens → IsFaultAt tokens other j → (other ≡ code) × (j ≡ k)

-- the tokens have a tree, or a fault from the place on
pub data Verdict (tokens : List Token) (at : ℕ) : Type 0 where
  good : (t : Tree) → IsTreeOf tokens t → ((u : Tree) → IsTreeOf tokens u → t ≡ u) → NoneFrom tokens at → Verdict tokens at
  bad : (code k : ℕ) (t : Token) → slice_get tokens k ≡ Some t → IsFaultAt tokens code k → ((u : Tree) → IsTreeOf tokens u → ⊥) → OnlyFrom tokens at code k → Verdict tokens at

-- tokens that a front has begin a text, up to each of them
fails_on : (tokens : List Token) (at k : ℕ) (front : List Mark) → at < k → Fails tokens at → IsFront front → tokens_in front ≡ take k tokens → ⊥
fails_on tokens at k front lt f is e =
    f (front ++ is.0) (drop (suc at) (take k tokens) ++ tokens_in is.0) is.1
    (tokens_append front is.0 ∙ ap (λ v. v ++ tokens_in is.0) (e ∙ taken_further tokens (suc at) k (omega arith)) ∙ append_assoc (take (suc at) tokens) (drop (suc at) (take k tokens)) (tokens_in is.0))

deep_front : (tokens : List Token) (k : ℕ) (d : TooDeep tokens k) → tokens_in (d.outside ++ opens rule.Block ∷ leaf d.brace ∷ []) ≡ take (suc k) tokens
deep_front tokens k d = tokens_append d.outside (opens rule.Block ∷ leaf d.brace ∷ []) ∙ ap (λ v. v ++ d.brace ∷ []) d.before ∙ sym (take_next tokens k d.brace d.here)

-- where no text goes on, there is the fault
only_here : (tokens : List Token) (at : ℕ) → Fails tokens at → OnlyFrom tokens at 3 at
only_here tokens at f other j le lt (inl (is, u)) = elim (leb_tells j at) [
  | inl e ↦ (is, omega (arith, le, e.1))
  | inr e ↦ absurd (fails_on tokens at j u.before.0 (omega (arith, e.1)) f u.before.1 u.before.2)
]
only_here tokens at f other j le lt (inr (is, d)) = absurd (fails_on tokens at (suc j) (d.outside ++ opens rule.Block ∷ leaf d.brace ∷ []) (omega arith) f d.front (deep_front tokens j d))

-- a text that begins with more tokens than one before a 33rd block has that block
deeper_front : {tokens : List Token} {at : ℕ} (j : ℕ) {gs : List Goal} {seen : List Mark} (front rest : List Mark) {depth : ℕ} → at < j → j ≤ length tokens → depth ≡ 32
    → IsBefore tokens at (part (Node rule.Block) ∷ gs) seen depth → IsText (front ++ rest) → tokens_in front ≡ take j tokens → IsNested front → ⊥
deeper_front {tokens} {at} j {gs} {seen} front rest lt le deep s text e nested =
    let all : tokens_in (front ++ rest) ≡ take (suc at) tokens ++ (drop (suc at) (take j tokens) ++ tokens_in rest) =
    tokens_append front rest ∙ ap (λ v. v ++ tokens_in rest) (e ∙ taken_further tokens (suc at) j (omega arith)) ∙ append_assoc (take (suc at) tokens) (drop (suc at) (take j tokens)) (tokens_in rest) in
    let w = s.whole (front ++ rest) (drop (suc at) (take j tokens) ++ tokens_in rest) text all in
    let v = after_node w.2 in
    let few : length (tokens_in seen) ≡ at = ap length s.read ∙ length-take-le at tokens (omega arith) in
    let many : length (tokens_in front) ≡ j = ap length e ∙ length-take-le j tokens le in
    too_many front rest seen v.0 (w.1 ∙ ap (λ ms. seen ++ ms) v.1) (omega (arith, few, many)) (sym s.open_blocks ∙ deep) nested

only_deep : {tokens : List Token} {at : ℕ} {t : Token} {gs : List Goal} {seen : List Mark} {depth : ℕ} → slice_get tokens at ≡ Some t → terminal_of t.what ≡ terminal.OpenBrace
    → depth ≡ 32 → IsBefore tokens at (part (Node rule.Block) ∷ gs) seen depth → OnlyFrom tokens at 4 at
only_deep {tokens} {at} {t} here brace deep s other j le lt (inl (is, u)) = elim (leb_tells j at) [
  | inl e ↦ (
      let same : j ≡ at = omega (arith, le, e.1) in
      let d = is_too_deep here brace deep s in
      absurd (u.none (d.outside ++ opens rule.Block ∷ leaf d.brace ∷ []) d.front (deep_front tokens at d ∙ ap (λ n. take (suc n) tokens) (sym same))))
  | inr e ↦ absurd (deeper_front j u.before.0 u.before.1.0 (omega (arith, e.1)) (omega arith) deep s u.before.1.1 u.before.2 u.before.3)
]
only_deep {tokens} {at} {t} here brace deep s other j le lt (inr (is, d)) = elim (leb_tells j at) [
  | inl e ↦ (is, omega (arith, le, e.1))
  | inr e ↦ (
      let rest : List Mark = opens rule.Block ∷ leaf d.brace ∷ d.front.0 in
      let text : IsText (d.outside ++ rest) = subst IsText (append_assoc d.outside (opens rule.Block ∷ leaf d.brace ∷ []) d.front.0) d.front.1 in
      absurd (deeper_front j d.outside rest (omega (arith, e.1)) (omega arith) deep s text d.before d.nested))
]

-- what is to come begins with its first token, but for the beginning of a field
abbrev Begins : Token → List Goal → Type 0
Begins t goals = (ms : List Mark) (more : List Token) → Reads goals ms → tokens_in ms ≡ t ∷ more → Leads ms

no_deep : {tokens : List Token} {at : ℕ} {t : Token} {goals : List Goal} {seen : List Mark} {depth : ℕ} → slice_get tokens at ≡ Some t
    → Begins t goals → IsBefore tokens at goals seen depth → TooDeep tokens at → ⊥
no_deep {tokens} {at} {seen = seen} here begins s d =
    let front : List Mark = d.outside ++ opens rule.Block ∷ leaf d.brace ∷ [] in
    let all : tokens_in (front ++ d.front.0) ≡ take (suc at) tokens ++ tokens_in d.front.0 = tokens_append front d.front.0 ∙ ap (λ v. v ++ tokens_in d.front.0) (deep_front tokens at d) in
    let w = goes_on here s d.front.1 all in
    let l = begins w.0 (tokens_in d.front.0) w.2 w.3 in
    let few : length (tokens_in d.outside) ≡ length (tokens_in seen) = ap length (d.before ∙ sym s.read) in
    let many : length (tokens_in (seen ++ l.front)) ≡ length (tokens_in seen) + length (tokens_in l.front) = ap length (tokens_append seen l.front) ∙ length-append (tokens_in seen) (tokens_in l.front) in
    too_many (seen ++ l.front) l.rest d.outside (leaf d.brace ∷ d.front.0)
    (append_assoc seen l.front l.rest ∙ ap (λ v. seen ++ v) (sym l.all) ∙ sym w.1 ∙ append_assoc d.outside (opens rule.Block ∷ leaf d.brace ∷ []) d.front.0)
    (omega (arith, few, many, l.one)) d.depth (nested_append 0 seen l.front s.nested (l.fits (depth_of seen) (nested_now seen s.nested)))

-- a token that is taken has no fault
none_here : {tokens : List Token} {at : ℕ} {goals : List Goal} {seen : List Mark} {depth : ℕ} → IsBefore tokens (suc at) goals seen depth → (TooDeep tokens at → ⊥)
    → (code : ℕ) → IsFaultAt tokens code at → ⊥
none_here {goals = goals} {seen = seen} s shallow code (inl (is, u)) = let text = has_text goals in u.none seen (text.0, s.sound text.0 text.1) s.read
none_here s shallow code (inr (is, d)) = shallow d

later : (tokens : List Token) (at : ℕ) → ((code : ℕ) → IsFaultAt tokens code at → ⊥) → Verdict tokens (suc at) → Verdict tokens at
later tokens at none (good t is alone further) = good t is alone (λ code k le lt f. elim (eqb_tells k at) [
  | inl same ↦ none code (subst (IsFaultAt tokens code) same.1 f)
  | inr other ↦ further code k (omega (arith, le, other.1)) lt f
])
later tokens at none (bad code k t here f tree only) = bad code k t here f tree (λ other j le lt g. elim (eqb_tells j at) [
  | inl same ↦ absurd (none other (subst (IsFaultAt tokens other) same.1 g))
  | inr differ ↦ only other j (omega (arith, le, differ.1)) lt g
])

-- a reader before the next token comes to a verdict
abbrev Next : List Token → ℕ → Type 0
Next tokens at = (goals : List Goal) (seen : List Mark) (depth : ℕ) → IsBefore tokens at goals seen depth → Verdict tokens at

-- a reader before a token, with less to come, comes to a verdict
abbrev Lighter : List Token → ℕ → ℕ → Type 0
Lighter tokens at w = (goals : List Goal) (seen : List Mark) (depth : ℕ) → weight goals < w → IsBefore tokens at goals seen depth → Verdict tokens at

block_or : (r : Rule) → (r ≡ rule.Block) ⊎ (r ≡ rule.Block → ⊥)
block_or rule.Block = inl refl
block_or _ = inr (λ e. cc)

which : (f : Option Form) → (f ≡ None) ⊎ ((ps : List Part) × (next : Phrase) × (f ≡ Some (ps, next)))
which None = inl refl
which (Some (ps, next)) = inr (ps, next, refl)

-- a reader before the token t, where one before the next token comes to a verdict
module _ (tokens : List Token) (at : ℕ) (t : Token) (here : slice_get tokens at ≡ Some t) (last : length tokens ≤ suc at → t.what ≡ kind.End) (next : Next tokens (suc at)) where
  taken : {goals new : List Goal} {seen read : List Mark} {depth deep : ℕ} → Begins t goals → IsBefore tokens at goals seen depth → IsBefore tokens (suc at) new read deep → Verdict tokens at
  taken {new = new} {read = read} {deep = deep} begins s n = later tokens at (none_here n (no_deep here begins s)) (next new read deep n)

  fails_verdict : {goals : List Goal} {seen : List Mark} {depth : ℕ} → IsBefore tokens at goals seen depth → Fails tokens at → Verdict tokens at
  fails_verdict s f = bad 3 at t here (inl (refl, is_unexpected s f)) (λ u is. f (marks u) (drop (suc at) tokens) is.grammar (is.yield ∙ sym (take-append-drop (suc at) tokens))) (only_here tokens at f)

  by_one : {c : Terminal} {gs : List Goal} {seen : List Mark} {depth : ℕ} → IsBefore tokens at (part (One c) ∷ gs) seen depth → Verdict tokens at
  by_one {c} s = elim (same_or c (terminal_of t.what)) [
    | inl e ↦ taken (λ ms more d is. let a = after_one d in subst Leads (sym a.2) (at_once a.0 a.1)) s (take_stands here last e s)
    | inr e ↦ fails_verdict s (fails_one here e s)
  ]

  -- the name of an operand
  operand : {gs : List Goal} {seen : List Mark} {depth : ℕ} → terminal_of t.what ≡ terminal.Name → IsBefore tokens at (phrase (Whole rule.Leaf) ∷ gs) seen depth → Verdict tokens at
  operand name s =
      let u = slice_get-item tokens (suc at) (not_last tokens at t last name) in
      elim (same_or terminal.Dot (terminal_of u.0.what)) [
        | inl dot ↦ taken (λ ms more d e. name_leads (operand_by d e name)) s (field_stands here last name u.1 dot s)
        | inr other ↦ taken (λ ms more d e. name_leads (operand_by d e name)) s
            (lone_stands here last name (λ v k is. other (ap (λ (w : Token). terminal_of w.what) (same_Some u.0 v (sym u.1 ∙ k)) ∙ is)) s)
      ]

  by_block : {gs : List Goal} {seen : List Mark} {depth : ℕ} → (depth < 32 → Verdict tokens at) → IsBefore tokens at (part (Node rule.Block) ∷ gs) seen depth → Verdict tokens at
  by_block {depth = depth} enter s = elim (same_or terminal.OpenBrace (terminal_of t.what)) [
    | inl brace ↦ elim (eqb_tells depth 32) [
      | inl deep ↦
          let none : (u : Tree) → IsTreeOf tokens u → ⊥ = λ u is. deeper_front (length tokens) (marks u) [] (slice_get_within tokens at t here) (omega arith) deep.1 s
          (subst IsText (sym (append-nil (marks u))) is.grammar) (is.yield ∙ sym (take_all (length tokens) tokens (omega arith))) is.nested in
          bad 4 at t here (inr (refl, is_too_deep here brace deep.1 s)) none (only_deep here brace deep.1 s)
      | inr few ↦ enter (omega (arith, few.1, room s))
    ]
    | inr other ↦ fails_verdict s (fails_block here other s)
  ]

  by_node : {w : ℕ} {r : Rule} {gs : List Goal} {seen : List Mark} {depth : ℕ} → Lighter tokens at w → weight (part (Node r) ∷ gs) < suc w → IsBefore tokens at (part (Node r) ∷ gs) seen depth → Verdict tokens at
  by_node {r = r} {gs = gs} {seen = seen} {depth = depth} lighter lt s =
      let enter : (r ≡ rule.Block → depth < 32) → Verdict tokens at = λ few. lighter _ _ _ (omega (arith, lt, enter_lowers r gs)) (enter_stands here few s) in
      elim (block_or r) [
        | inl e ↦ by_block (λ few. enter (λ k. few)) (subst (λ v. IsBefore tokens at (part (Node v) ∷ gs) seen depth) e s)
        | inr e ↦ enter (λ k. absurd (e k))
      ]

  by_phrase : {w : ℕ} {x : Phrase} {gs : List Goal} {seen : List Mark} {depth : ℕ} → Lighter tokens at w → weight (phrase x ∷ gs) < suc w → IsBefore tokens at (phrase x ∷ gs) seen depth → Verdict tokens at
  by_phrase {x = x} {gs = gs} {seen = seen} {depth = depth} lighter lt s = elim (cases_Bool (is_done x)) [
    | inl e ↦ (
        let is : x ≡ Done = done_is x e in
        let same : weight (phrase Done ∷ gs) ≡ weight (phrase x ∷ gs) = ap (λ v. weight (phrase v ∷ gs)) (sym is) in
        lighter gs seen depth (omega (arith, lt, same)) (done_stands here (subst (λ v. IsBefore tokens at (phrase v ∷ gs) seen depth) is s)))
    | inr undone ↦ elim (cases_Bool (is_operand_name x (terminal_of t.what))) [
      | inl e ↦ (let is = operand_is x (terminal_of t.what) e in operand is.1 (subst (λ v. IsBefore tokens at (phrase v ∷ gs) seen depth) is.0 s))
      | inr name ↦ elim (which (choice_of x (terminal_of t.what))) [
        | inl none ↦ fails_verdict s (fails_phrase here name undone none s)
        | inr f ↦ lighter _ _ _ (omega (arith, lt, choose_lowers x (terminal_of t.what) f.0 f.1 gs f.2 undone)) (choose_stands here name undone f.2 s)
      ]
    ]
  ]

  -- the steps before the token is taken
  steps : (w : ℕ) → Lighter tokens at w
  steps zero goals seen depth lt s = absurd (omega arith)
  steps (suc w) [] seen depth lt s = fails_verdict s (fails_none here s)
  steps (suc w) (part (One c) ∷ gs) seen depth lt s = by_one s
  steps (suc w) (part (Node r) ∷ gs) seen depth lt s = by_node (steps w) lt s
  steps (suc w) (shut r ∷ gs) seen depth lt s = steps w gs (seen ++ shuts r ∷ []) (depth_after depth (shuts r)) (omega arith) (shut_stands here s)
  steps (suc w) (phrase x ∷ gs) seen depth lt s = by_phrase (steps w) lt s

by_end : {tokens : List Token} {at : ℕ} {goals : List Goal} {seen : List Mark} {depth : ℕ} → length tokens ≤ at → IsBefore tokens at goals seen depth → Verdict tokens at
by_end h s =
    let t = tree_of rule.Program _ (text_is h s) in
    good t.0 (tree_is t.0 h s t.1) (λ u is. tree_alone t.0 h s t.1 is) (λ code k le lt f. absurd (omega arith))

after : (tokens : List Token) → EndsOnce tokens → (left at : ℕ) → length tokens ≤ at + left → Next tokens at
after tokens ends zero at h goals seen depth s = by_end (omega arith) s
after tokens ends (suc left) at h goals seen depth s = elim (leb_tells (length tokens) at) [
  | inl e ↦ by_end e.1 s
  | inr e ↦ (
      let t = slice_get-item tokens at (omega (arith, e.1)) in
      steps tokens at t.0 t.1 (λ le. ends_at tokens at t.0 ends t.1 le) (after tokens ends left (suc at) (omega arith)) (suc (weight goals)) goals seen depth (omega arith) s)
]

pub verdict : (tokens : List Token) → EndsOnce tokens → Verdict tokens 0
verdict tokens ends = after tokens ends (length tokens) 0 (omega arith) (phrase (Whole rule.Program) ∷ shut rule.Program ∷ []) (opens rule.Program ∷ []) 0 (starts tokens ends)

-- no tokens have a tree and a fault, and none have two trees
pub apart : (tokens : List Token) → EndsOnce tokens → HasTree tokens → HasFault tokens → ⊥
apart tokens ends t f = elim (verdict tokens ends) [
  | good u is alone none ↦ none f.0 f.3.0 (omega arith) (slice_get_within tokens f.3.0 f.3.1 f.3.2) f.3.5
  | bad code k u here g none only ↦ none t.0 t.1
]

pub one_tree : (tokens : List Token) (t u : Tree) → EndsOnce tokens → IsTreeOf tokens t → IsTreeOf tokens u → t ≡ u
one_tree tokens t u ends h k = elim (verdict tokens ends) [
  | good v is alone none ↦ sym (alone t h) ∙ alone u k
  | bad code at v here f none only ↦ absurd (none t h)
]

-- a right answer is that tree, where the tokens have one
pub gives : (tokens : List Token) (r : Result Tree ProgramFault) (other : Tree) → EndsOnce tokens → Answers tokens r → IsTreeOf tokens other → Gives r other
gives tokens (Ok t) other ends h o = one_tree tokens t other ends h o
gives tokens (Err NoMemory) other ends h o = tt
gives tokens (Err (At code line column)) other ends h o = apart tokens ends (other, o) (code, line, column, h)
