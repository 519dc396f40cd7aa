-- What is read in the trees of a rule, and what is among the parts of a phrase, in whatever form they stand: by the grammar.
use Rattle.std.proofs.Common.{◌≡◌, ◌∙◌, inl, inr, ℕ, zero, suc, ◌≤◌, Bool, true, false, List, [], ◌∷◌, ◌++◌, Option, None, map, length, refl, sym, ap, ap₂, subst, append_assoc, arith, if◌then◌else◌, Some, unwrap_or, All, get_or, nat_lt}
use Rattle.std.specs.Prelude.{◌==◌, ◌&&◌, ◌||◌, IsSome, not}
use Rattle.std.specs.List.{AllByRecursion, list_any, list_all, cons_option}
use Rattle.std.specs.Option.{option_or, IfSome}
use Rattle.std.proofs.lemmas.Bool.Decides.{nat_tests}
use Rattle.std.proofs.lemmas.Bool.{and_parts, or_cases, false≢true}
use Rattle.rmt_check.specs.Parts.{Terminal, Rule, Tree}
use Rattle.rmt_syntax.specs.declared.grammar.Part.{Part}
use Rattle.rmt_syntax.specs.declared.grammar.Part.TheVariants.{One, Node}
use Rattle.rmt_syntax.specs.declared.grammar.Phrase.{Phrase}
use Rattle.rmt_syntax.specs.declared.grammar.Phrase.TheVariants.{Whole}
use Rattle.rmt_syntax.specs.Grammar.{Form, choices}
use Rattle.rmt_syntax.specs.declared.tree.Rule.TheVariants as rule
use Rattle.rmt_syntax.specs.declared.grammar.Phrase.TheVariants as phrase
use Rattle.rmt_syntax.specs.Lookahead.{is_done, same}
use Rattle.rmt_syntax.specs.Trees.{marks, part, Reads, IsOf, IsNodeOf, IsTokenOf, AreParts, ArePartsOf, Follows, stop, onward}
use Rattle.rmt_syntax.proofs.Sets.{same_is, all_at}
use Rattle.rmt_check.specs.Reading.{same_rule, first, each, parts_if, of_rule}
use Rattle.std.proofs.lemmas.Option.{none-some}
use Rattle.rmt_syntax.specs.declared.tree.Tree.{Tree, out-Tree}
use Rattle.rmt_syntax.specs.declared.tree.Tree.TheOpen.{Tree-F}
use denote.Enum.Bare.{same_true, true_same}
use Rattle.rmt_syntax.specs.contracts.tree.Rule.{the_type}
use Rattle.std.proofs.lemmas.List.Elements.{All-nil, All-cons, All-tail}
use Rattle.rmt_syntax.specs.declared.tree.Tree.TheOpen as tree

pub rule_is : (a b : Rule) → same_rule a b ≡ true → a ≡ b
rule_is a b h = same_true the_type tt a b h

-- the text of a rule has its parts
pub parts_there : (r : Rule) (v : List Tree) → parts_if r (tree.Many r v) ≡ Some v
parts_there r v = ap (λ (b : Bool). if b then Some v else None) (true_same the_type r r refl)

-- what has parts of a rule is its text
pub is_text : (r : Rule) (x : Tree-F Tree) (v : List Tree) → parts_if r x ≡ Some v → x ≡ tree.Many r v
is_text r (tree.One t) v e = absurd (none-some v e)
is_text r (tree.Many s w) v e = grind (arith, rule_is, e)

-- what is made of the text of a rule is made of its parts
pub made_of : {A : Type 0} (r : Rule) (make : List Tree → A) (u : Tree) (us : List Tree) (a : A) → of_rule r make (u ∷ us) ≡ Some a → (v : List Tree) × (out-Tree u ≡ tree.Many r v) × (make v ≡ a)
made_of r make u us a e = grind (arith, is_text)

-- What holds of each of some trees holds of what is read in them.

-- what is seen holds, and so do the others
one_more : {Y : Type 0} (Q : Y → Type 0) (o : Option Y) (ys : List Y) → ((y : Y) → o ≡ Some y → Q y) → All Q ys → All Q (cons_option o ys)
one_more Q o ys shows rest = grind (arith, All-cons)

one_or : {Y : Type 0} (Q : Y → Type 0) (o p : Option Y) → ((y : Y) → o ≡ Some y → Q y) → IfSome p Q → IfSome (option_or o p) Q
one_or Q o p shows rest = grind arith

module _ {Y : Type 0} (P : Tree → Type 0) (Q : Y → Type 0) (see : List Tree → Option Y) (shows : (ts : List Tree) (y : Y) → All P ts → see ts ≡ Some y → Q y) where
  pub each_seen : (ts : List Tree) → All P ts → All Q (each see ts)
  each_seen [] h = All-nil Q
  each_seen (t ∷ ts) h = one_more Q (see (t ∷ ts)) (each see ts) (λ y. shows (t ∷ ts) y h) (each_seen ts (All-tail P t ts h))

  pub first_seen : (ts : List Tree) → All P ts → IfSome (first see ts) Q
  first_seen [] h = tt
  first_seen (t ∷ ts) h = one_or Q (see (t ∷ ts)) (first see ts) (λ y. shows (t ∷ ts) y h) (first_seen ts (All-tail P t ts h))

pub or_default : {Y : Type 0} (Q : Y → Type 0) (o : Option Y) (default : Y) → IfSome o Q → Q default → Q (unwrap_or o default)
or_default Q o default h d = grind arith

-- What is among the parts of a phrase: found by computing over the grammar.

-- what a text of the grammar is made of
abbrev pub NodesHaveParts : Type 0
NodesHaveParts = (r : Rule) (t : Tree) → IsOf r t → IsNodeOf r t

abbrev pub TokensStand : Type 0
TokensStand = (c : Terminal) (t : Tree) → Reads (part (One c) ∷ []) (marks t) → IsTokenOf c t

-- whether two parts are the same
abbrev same_part : Part → Part → Bool
same_part (One c) (One d) = same c d
same_part (Node r) (Node s) = same_rule r s
same_part _ _ = false

part_is : (p q : Part) → same_part p q ≡ true → p ≡ q
part_is p q e = grind (arith, same_is, rule_is)

-- the phrases that go on with themselves, of those that have a part to come
abbrev looping : List Phrase
looping =
    phrase.Done ∷ Whole rule.Program ∷ phrase.HeaderFields ∷ phrase.SelectNames ∷ phrase.Cases ∷ phrase.MoreValues ∷ phrase.KeyFields ∷ phrase.KeyActions ∷ phrase.Arms ∷ []

-- the place of a phrase among them, 0 for one that is none
abbrev loop_number : Phrase → ℕ
loop_number (Whole rule.Program) = 1
loop_number phrase.HeaderFields = 2
loop_number phrase.SelectNames = 3
loop_number phrase.Cases = 4
loop_number phrase.MoreValues = 5
loop_number phrase.KeyFields = 6
loop_number phrase.KeyActions = 7
loop_number phrase.Arms = 8
loop_number _ = 0

-- whether two are the same such phrase
abbrev again : Phrase → Phrase → Bool
again x y = nat_lt 0 (loop_number x) && (loop_number x == loop_number y)

stands_at : (x : Phrase) → nat_lt 0 (loop_number x) ≡ true → get_or looping (loop_number x) phrase.Done ≡ x
stands_at x e = grind arith

again_is : (x y : Phrase) → again x y ≡ true → x ≡ y
again_is x y e =
    let both = and_parts (nat_lt 0 (loop_number x)) (loop_number x == loop_number y) e in
    let same : loop_number x ≡ loop_number y = grind (arith, nat_tests, both.1) in
    sym (stands_at x both.0) ∙ ap (λ n. get_or looping n phrase.Done) same ∙ stands_at y (ap (nat_lt 0) (sym same) ∙ both.0)

-- some parts begin with a run of parts
abbrev begins : List Part → List Part → Bool
begins [] ps = true
begins (q ∷ run) [] = false
begins (q ∷ run) (p ∷ ps) = same_part q p && begins run ps

-- one of the runs stands among some parts
abbrev pub has : List (List Part) → List Part → Bool
has runs [] = false
has runs (p ∷ ps) = list_any (λ run. begins run (p ∷ ps)) runs || has runs ps

-- It stands in each form of a phrase, or of the phrase that goes on: in one of so many phrases.
abbrev pub always : List (List Part) → ℕ → Phrase → Bool
always runs zero x = false
always runs (suc n) x = not (is_done x) && list_all (λ (f : Form). has runs f.0 || (again x f.1 || always runs n f.1)) (choices x)

-- each part of a phrase of so many passes a test
abbrev pub only : (Part → Bool) → ℕ → Phrase → Bool
only test zero x = false
only test (suc n) x = list_all (λ (f : Form). list_all test f.0 && (again x f.1 || only test n f.1)) (choices x)

pub some_either : {Y : Type 0} (a b : Option Y) → IsSome a → IsSome (option_or a b)
some_either a b h = grind arith

pub some_or : {Y : Type 0} (a b : Option Y) → IsSome b → IsSome (option_or a b)
some_or a b h = grind arith

-- something is seen where a run of parts begins
abbrev pub Shows : {Y : Type 0} → (List Tree → Option Y) → List Part → Type 0
Shows see run = (ps : List Part) (us : List Tree) → AreParts (run ++ ps) us → IsSome (see us)

begun : (run ps : List Part) → begins run ps ≡ true → (rest : List Part) × (ps ≡ run ++ rest)
begun [] ps e = (ps, refl)
begun (q ∷ run) [] e = absurd (false≢true e)
begun (q ∷ run) (p ∷ ps) e =
    let both = and_parts (same_part q p) (begins run ps) e in
    let rest = begun run ps both.1 in (rest.0, ap₂ (λ (x : Part) (xs : List Part). x ∷ xs) (sym (part_is q p both.0)) rest.1)

shown : {Y : Type 0} (see : List Tree → Option Y) (runs : List (List Part)) → AllByRecursion (Shows see) runs → (ps qs : List Part) (us : List Tree)
    → list_any (λ run. begins run ps) runs ≡ true → AreParts (ps ++ qs) us → IsSome (see us)
shown see [] h ps qs us e parts = absurd (false≢true e)
shown see (run ∷ runs) h ps qs us e parts = elim (or_cases (begins run ps) (list_any (λ other. begins other ps) runs) e) [
  | inl k ↦ (let rest = begun run ps k in
      h.0 (rest.0 ++ qs) us (subst (λ xs. AreParts xs us) (ap (λ xs. xs ++ qs) rest.1 ∙ append_assoc run rest.0 qs) parts))
  | inr k ↦ shown see runs h.1 ps qs us k parts
]

module _ {Y : Type 0} (see : List Tree → Option Y) (runs : List (List Part)) (shows : AllByRecursion (Shows see) runs) where
  -- what stands among the first parts is seen
  pub there : (ps qs : List Part) (us : List Tree) → has runs ps ≡ true → AreParts (ps ++ qs) us → IsSome (first see us)
  there [] qs us e h = absurd (false≢true e)
  there (p ∷ ps) qs [] e h = absurd h
  there (p ∷ ps) qs (u ∷ us) e h = elim (or_cases (list_any (λ run. begins run (p ∷ ps)) runs) (has runs ps) e) [
    | inl k ↦ some_either (see (u ∷ us)) (first see us) (shown see runs shows (p ∷ ps) qs (u ∷ us) k h)
    | inr k ↦ some_or (see (u ∷ us)) (first see us) (there ps qs us k h.1)
  ]

  -- and what is seen behind them
  pub behind_them : (ps qs : List Part) (us : List Tree) → AreParts (ps ++ qs) us → ((vs : List Tree) → AreParts qs vs → IsSome (first see vs)) → IsSome (first see us)
  behind_them [] qs us h more = more us h
  behind_them (p ∷ ps) qs [] h more = absurd h
  behind_them (p ∷ ps) qs (u ∷ us) h more = some_or (see (u ∷ us)) (first see us) (behind_them ps qs us h.1 more)

  pub comes : {x : Phrase} {ps : List Part} → Follows x ps → (n : ℕ) (us : List Tree) → always runs n x ≡ true → AreParts ps us → IsSome (first see us)
  comes stop zero us e h = absurd (false≢true e)
  comes stop (suc n) us e h = absurd (false≢true e)
  comes (onward i parts next is f) zero us e h = absurd (false≢true e)
  comes (onward {x = x} {qs = qs} i parts next is f) (suc n) us e h =
      let test = λ (g : Form). has runs g.0 || (again x g.1 || always runs n g.1) in
      let here = all_at test (choices x) i (parts, next) (and_parts (not (is_done x)) (list_all test (choices x)) e).1 is in
      elim (or_cases (has runs parts) (again x next || always runs n next) here) [
        | inl k ↦ there parts qs us k h
        | inr k ↦ behind_them parts qs us h (λ vs g. elim (or_cases (again x next) (always runs n next) k) [
          | inl loop ↦ comes f (suc n) vs (subst (λ y. always runs (suc n) y ≡ true) (again_is x next loop) e) g
          | inr on ↦ comes f n vs on g
        ])
      ]

  -- in a form, or in the phrase that goes on
  pub comes_on : {qs : List Part} (n : ℕ) (ps : List Part) (next : Phrase) (us : List Tree) → Follows next qs → (has runs ps || always runs n next) ≡ true → AreParts (ps ++ qs) us
      → IsSome (first see us)
  comes_on {qs = qs} n ps next us f e h = elim (or_cases (has runs ps) (always runs n next) e) [
    | inl k ↦ there ps qs us k h
    | inr k ↦ behind_them ps qs us h (λ vs g. comes f n vs k g)
  ]

-- nothing is seen in parts that pass a test
module _ {Y : Type 0} (see : List Tree → Option Y) (test : Part → Bool) (hides : (p : Part) (u : Tree) (us : List Tree) → test p ≡ true → Reads (part p ∷ []) (marks u) → see (u ∷ us) ≡ None) where
  pub hidden : (ps qs : List Part) (us : List Tree) → list_all test ps ≡ true → AreParts (ps ++ qs) us → ((vs : List Tree) → AreParts qs vs → first see vs ≡ None) → first see us ≡ None
  hidden [] qs us e h more = more us h
  hidden (p ∷ ps) qs [] e h more = absurd h
  hidden (p ∷ ps) qs (u ∷ us) e h more =
      let both = and_parts (test p) (list_all test ps) e in ap (λ o. option_or o (first see us)) (hides p u us both.0 h.0) ∙ hidden ps qs us both.1 h.1 more

  pub never : {x : Phrase} {ps : List Part} → Follows x ps → (n : ℕ) (us : List Tree) → only test n x ≡ true → AreParts ps us → first see us ≡ None
  never stop n [] e h = refl
  never stop n (u ∷ us) e h = absurd h
  never (onward i parts next is f) zero us e h = absurd (false≢true e)
  never (onward {x = x} {qs = qs} i parts next is f) (suc n) us e h =
      let here = all_at (λ (g : Form). list_all test g.0 && (again x g.1 || only test n g.1)) (choices x) i (parts, next) e is in
      let both = and_parts (list_all test parts) (again x next || only test n next) here in
      hidden parts qs us both.0 h (λ vs g. elim (or_cases (again x next) (only test n next) both.1) [
        | inl loop ↦ never f (suc n) vs (subst (λ y. only test (suc n) y ≡ true) (again_is x next loop) e) g
        | inr on ↦ never f n vs on g
      ])

-- something is seen in a part
abbrev pub Sees : {Y : Type 0} → (List Tree → Option Y) → Part → Type 0
Sees see p = (u : Tree) (us : List Tree) → Reads (part p ∷ []) (marks u) → IsSome (see (u ∷ us))

abbrev pub each_alone : List Part → List (List Part)
each_alone ps = map (λ p. p ∷ []) ps

pub all_show : {Y : Type 0} (see : List Tree → Option Y) (qs : List Part) → AllByRecursion (Sees see) qs → AllByRecursion (Shows see) (each_alone qs)
all_show see [] h = tt
all_show see (q ∷ qs) h = (here, all_show see qs h.1)
  where
    here : (ps : List Part) (us : List Tree) → AreParts (q ∷ ps) us → IsSome (see us)
    here ps [] parts = absurd parts
    here ps (u ∷ us) parts = h.0 u us parts.0

-- one of some parts is seen, as it stands in each form of a rule's text
pub found : {Y : Type 0} (see : List Tree → Option Y) (qs : List Part) → AllByRecursion (Sees see) qs → (r : Rule) → always (each_alone qs) 4 (Whole r) ≡ true
    → (us : List Tree) → ArePartsOf (Whole r) us → IsSome (first see us)
found see qs sees r e us h = comes see (each_alone qs) (all_show see qs sees) h.1 4 us e h.2

-- where one is seen first, there is one
pub listed : {Y : Type 0} (see : List Tree → Option Y) (us : List Tree) → IsSome (first see us) → 1 ≤ length (each see us)
listed see [] h = cc
listed see (u ∷ us) h = grind (arith, listed see us)
