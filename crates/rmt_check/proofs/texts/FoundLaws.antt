-- What the reader looks for in the text of each rule is there.
use Rattle.std.proofs.Common.{◌≡◌, ◌∙◌, ◌⊎◌, inl, inr, Bool, true, false, List, [], ◌∷◌, ◌++◌, Option, None, Some, map, refl, sym, ap, subst, arith}
use Rattle.std.specs.Prelude.{◌==◌, ◌||◌, ◌&&◌, IsSome, not, bytes_eq, if◌then◌else◌, option_map}
use Rattle.std.specs.List.{list_all}
use Rattle.std.specs.Option.{option_and_then}
use Rattle.std.proofs.lemmas.Bool.{and_parts, or_cases, or_right, false≢true}
use Rattle.rmt_check.specs.Parts.{Position, Token, TokenKind, Terminal, Rule, FieldText}
use Rattle.rmt_syntax.specs.declared.tree.Tree.{Tree, out-Tree}
use Rattle.rmt_syntax.specs.declared.tree.Tree.TheOpen.{Tree-F}
use Rattle.rmt_syntax.specs.declared.grammar.Part.{Part}
use Rattle.rmt_syntax.specs.declared.grammar.Part.TheVariants.{One, Node}
use Rattle.rmt_syntax.specs.declared.grammar.Phrase.{Phrase}
use Rattle.rmt_syntax.specs.declared.grammar.Phrase.TheVariants.{Whole}
use Rattle.rmt_syntax.specs.Grammar.{Form, choices, entry, keywords, signs, terminal_of}
use Rattle.rmt_syntax.specs.Lookahead.{same, member, is_done}
use Rattle.rmt_syntax.specs.Trees.{marks, part, Reads, IsOf, AreParts, ArePartsOf, Follows, stop, onward}
use Rattle.rmt_check.specs.Reading.{parts, parts_of, parts_if, at_rule, of_rule, first, first, in_token, at_token, place_at, place_if, place_of, token_place, name_if, name_at, number_in, number_at, name_behind, number_behind, behind, seen_behind, target_if, target_word, target_at, target_text, next_at, leaf_at, leaf_text, leaf_part, kind_of, kind_at, arm_if, arm_word, word_in, word_at, field_text, field_at, words}
use Rattle.rmt_check.specs.Found.{IsFound, IsStatementFound}
use Rattle.rmt_check.proofs.ReadingLaws.{one, many}
use Rattle.rmt_syntax.proofs.Sets.{same_refl, all_at, member_here}
use Rattle.rmt_check.proofs.texts.PhraseLaws.{parts_there, some_either, some_or, NodesHaveParts, TokensStand, has, always, only, Shows, there, comes, comes_on, hidden, never, Sees, all_show, found, listed}
use Rattle.rmt_lexer.specs.declared.token.TokenKind.TheVariants as token
use Rattle.rmt_syntax.specs.declared.terminal.Terminal.TheVariants as terminal
use Rattle.rmt_syntax.specs.declared.tree.Rule.TheVariants as rule
use Rattle.rmt_check.specs.declared.source.LeafText.TheVariants as leaf

-- a table of words or signs gives one of its terminals, or the last
abbrev pub terminals : {K : Type 0} → List (K × Terminal) → Terminal → List Terminal
terminals es last = map (λ (e : _ × Terminal). e.1) es ++ last ∷ []

pub given : {K : Type 0} (is : K → Bool) (es : List (K × Terminal)) (last c : Terminal) → entry is es last ≡ c → member c (terminals es last) ≡ true
given is [] last c e = member_here c last [] e
given is (x ∷ es) last c e = by (is x.0) e (given is es last c)
  where
    by : (b : Bool) → (if b then x.1 else entry is es last) ≡ c → (entry is es last ≡ c → member c (terminals es last) ≡ true) → member c (x.1 ∷ terminals es last) ≡ true
    by true k rest = member_here c x.1 (terminals es last) k
    by false k rest = or_right (same x.1 c) (member c (terminals es last)) (rest k)

number_some : (k : TokenKind) (p : Position) → terminal_of k ≡ terminal.Number → IsSome (number_in k p)
number_some (token.Word w) p e = absurd (false≢true (given (λ x. bytes_eq x w) keywords terminal.Name terminal.Number e))
number_some (token.Number n) p e = refl
number_some (token.Sign b) p e = absurd (false≢true (given (λ x. x == b) signs terminal.Other terminal.Number e))
number_some _ p e = cc

-- what is no word
abbrev no_words : List Terminal
no_words = terminal.Number ∷ terminal.Equal ∷ terminal.End ∷ terminals signs terminal.Other

word_some : (k : TokenKind) (t : Token) (c : Terminal) → member c no_words ≡ false → terminal_of k ≡ c → IsSome (word_in k t)
word_some (token.Word w) t c other e = refl
word_some (token.Sign b) t c other e =
    let sign = given (λ x. x == b) signs terminal.Other c e in
    let k = or_right (same terminal.Number c) _ (or_right (same terminal.Equal c) _ (or_right (same terminal.End c) (member c (terminals signs terminal.Other)) sign)) in cc
word_some _ t c other e = let k = subst (λ x. member x no_words ≡ false) (sym e) other in cc

-- no field
abbrev is_other : Part → Bool
is_other (Node rule.Arm) = true
is_other (One c) = true
is_other _ = false

some_mapped : {X Y : Type 0} (f : X → Y) (o : Option X) → IsSome o → IsSome (option_map f o)
some_mapped f o h = grind arith

behind_some : {Y : Type 0} (a : Option Position) (b : Option Y) → IsSome a → IsSome b → IsSome (behind a b)
behind_some a b h g = grind arith

-- the forms of a statement: an `apply` has a name and no field, an `if` a field and what it is compared with
abbrev a_name : List (List Part)
a_name = (One terminal.Name ∷ []) ∷ []

abbrev a_field : List (List Part)
a_field = (Node rule.Field ∷ []) ∷ []

abbrev compared : List (List Part)
compared = (One terminal.Equal ∷ One terminal.Number ∷ []) ∷ []

abbrev is_apply : Form → Bool
is_apply f = list_all is_other f.0 && (only is_other 3 f.1 && has a_name f.0)

abbrev is_if : Form → Bool
is_if f = has a_field f.0 && (has compared f.0 || always compared 2 f.1)

abbrev is_statement : Phrase → Bool
is_statement x = not (is_done x) && list_all (λ f. is_apply f || is_if f) (choices x)

statement_by : (o : Option FieldText) (us : List Tree) → ((o ≡ None) × IsSome (first name_at us)) ⊎ (IsSome o × IsSome (first (number_behind terminal.Equal) us)) → IsStatementFound o us
statement_by o us h = grind arith

module _ (nodes : NodesHaveParts) (tokens : TokensStand) where
  -- what is seen in a token of a kind
  in_some : {Y : Type 0} (see : Token → Option Y) (c : Terminal) → ((t : Token) → terminal_of t.what ≡ c → IsSome (see t)) → Sees (at_token see) (One c)
  in_some see c shows u us h =
      let k = tokens c u h in subst IsSome (sym (ap (in_token see) (ap out-Tree k.1 ∙ one k.0))) (shows k.0 k.2)

  -- by the kind alone
  by_kind : {Y : Type 0} (see : Terminal → Token → Option Y) (c : Terminal) → ((t : Token) → IsSome (see c t)) → Sees (at_token (λ t. see (terminal_of t.what) t)) (One c)
  by_kind see c shows = in_some (λ t. see (terminal_of t.what) t) c (λ t e. subst (λ x. IsSome (see x t)) (sym e) (shows t))

  -- the parts of a node
  node_there : (r : Rule) (u : Tree) → Reads (part (Node r) ∷ []) (marks u) → (v : List Tree) × (parts_if r (out-Tree u) ≡ Some v) × ArePartsOf (Whole r) v
  node_there r u h = let k = nodes r u h in (k.0, ap (parts_if r) (ap out-Tree k.1 ∙ many r k.0) ∙ parts_there r k.0, k.2)

  pub made_there : {Y : Type 0} (r : Rule) (make : List Tree → Y) → Sees (of_rule r make) (Node r)
  made_there r make u us h = subst (λ (o : Option (List Tree)). IsSome (option_map make o)) (sym (node_there r u h).1) refl

  said_there : {Y : Type 0} (r : Rule) (see : List Tree → Option Y) → ((us : List Tree) → ArePartsOf (Whole r) us → IsSome (see us)) → Sees (at_rule r see) (Node r)
  said_there r see says u us h = let k = node_there r u h in subst (λ (o : Option (List Tree)). IsSome (option_and_then see o)) (sym k.1) (says k.0 k.2)

  next_there : Sees next_at (Node rule.Next)
  next_there u us h = subst IsSome (sym (node_there rule.Next u h).1) refl

  place_there : (c : Terminal) → Sees token_place (One c)
  place_there c = in_some (λ t. Some (place_of t)) c (λ t is. refl)

  pub name_there : Sees name_at (One terminal.Name)
  name_there = by_kind name_if terminal.Name (λ t. refl)

  number_there : Sees number_at (One terminal.Number)
  number_there = in_some (λ t. number_in t.what (place_of t)) terminal.Number (λ t is. number_some t.what (place_of t) is)

  word_there : (c : Terminal) → member c no_words ≡ false → Sees word_at (One c)
  word_there c other = in_some (λ t. word_in t.what t) c (λ t is. word_some t.what t c other is)

  token_there : (c : Terminal) → Sees (place_at c) (One c)
  token_there c = in_some (place_if c) c (λ t e. subst (λ (b : Bool). IsSome (if b then Some (place_of t) else None)) (sym (ap (same c) e ∙ same_refl c)) refl)

  pub field_there : Sees field_at (Node rule.Field)
  field_there = made_there rule.Field (λ ts. field_text (name_at ts) (words ts))

  abbrev field_in : Tree-F Tree → Option FieldText
  field_in x = option_map (λ (ts : List Tree). field_text (name_at ts) (words ts)) (parts_if rule.Field x)

  no_field : (p : Part) (u : Tree) (us : List Tree) → is_other p ≡ true → Reads (part p ∷ []) (marks u) → field_at (u ∷ us) ≡ None
  no_field (Node rule.Arm) u us e h = let k = nodes rule.Arm u h in ap field_in (ap out-Tree k.1 ∙ many rule.Arm k.0)
  no_field (One c) u us e h = let k = tokens c u h in ap field_in (ap out-Tree k.1 ∙ one k.0)
  no_field _ u us e h = absurd (false≢true e)

  field_operand : Sees leaf_part (Node rule.Field)
  field_operand u us k = some_either _ _ (some_mapped leaf.Field (field_at (u ∷ us)) (field_there u us k))

  name_operand : Sees leaf_part (One terminal.Name)
  name_operand u us k = some_or (option_map leaf.Field (field_at (u ∷ us))) _ (some_either _ _ (some_mapped leaf.Param (name_at (u ∷ us)) (name_there u us k)))

  number_operand : Sees leaf_part (One terminal.Number)
  number_operand u us k = some_or (option_map leaf.Field (field_at (u ∷ us))) _ (some_or (option_map leaf.Param (name_at (u ∷ us))) _ (some_mapped leaf.Number (number_at (u ∷ us)) (number_there u us k)))

  target_found : (us : List Tree) → ArePartsOf (Whole rule.Target) us → IsSome (target_text us)
  target_found =
      found target_word (One terminal.Name ∷ One terminal.Accept ∷ One terminal.Reject ∷ [])
      (by_kind target_if terminal.Name (λ t. refl), (by_kind target_if terminal.Accept (λ t. refl), (by_kind target_if terminal.Reject (λ t. refl), tt))) rule.Target refl

  target_in : (r : Rule) → always ((Node rule.Target ∷ []) ∷ []) 4 (Whole r) ≡ true → (us : List Tree) → ArePartsOf (Whole r) us → IsSome (first target_at us)
  target_in = found target_at (Node rule.Target ∷ []) (said_there rule.Target target_text target_found, tt)

  leaf_found : (us : List Tree) → ArePartsOf (Whole rule.Leaf) us → IsSome (leaf_text us)
  leaf_found = found leaf_part (Node rule.Field ∷ One terminal.Name ∷ One terminal.Number ∷ []) (field_operand, (name_operand, (number_operand, tt))) rule.Leaf refl

  pub name_in : (r : Rule) → always ((One terminal.Name ∷ []) ∷ []) 4 (Whole r) ≡ true → (us : List Tree) → ArePartsOf (Whole r) us → IsSome (first name_at us)
  name_in = found name_at (One terminal.Name ∷ []) (name_there, tt)

  number_in_text : (r : Rule) → always ((One terminal.Number ∷ []) ∷ []) 4 (Whole r) ≡ true → (us : List Tree) → ArePartsOf (Whole r) us → IsSome (first number_at us)
  number_in_text = found number_at (One terminal.Number ∷ []) (number_there, tt)

  -- a part behind a token
  behind_there : {Y : Type 0} (c d : Terminal) (see : List Tree → Option Y) → Sees see (One d) → Shows (seen_behind c see) (One c ∷ One d ∷ [])
  behind_there c d see sees ps [] h = absurd h
  behind_there c d see sees ps (a ∷ []) h = absurd h.1
  behind_there c d see sees ps (a ∷ b ∷ us) h = behind_some (place_at c (a ∷ b ∷ us)) (see (b ∷ us)) (token_there c a (b ∷ us) h.0) (sees b us h.1.0)

  statement_found : {x : Phrase} {ps : List Part} (us : List Tree) → Follows x ps → is_statement x ≡ true → AreParts ps us → IsStatementFound (first field_at us) us
  statement_found us stop e h = absurd (false≢true e)
  statement_found us (onward {x = x} {qs = qs} i parts next is f) e h =
      let one_of = λ (g : Form). is_apply g || is_if g in
      let here = all_at one_of (choices x) i (parts, next) (and_parts (not (is_done x)) (list_all one_of (choices x)) e).1 is in
      statement_by (first field_at us) us (elim (or_cases (is_apply (parts, next)) (is_if (parts, next)) here) [
        | inl k ↦ (let both = and_parts (list_all is_other parts) (only is_other 3 next && has a_name parts) k in
            let more = and_parts (only is_other 3 next) (has a_name parts) both.1 in
            inl (
              hidden field_at is_other no_field parts qs us both.0 h (λ vs g. never field_at is_other no_field f 3 vs more.0 g),
              there name_at a_name (all_show name_at (One terminal.Name ∷ []) (name_there, tt)) parts qs us more.1 h,
            ))
        | inr k ↦ (let both = and_parts (has a_field parts) (has compared parts || always compared 2 next) k in
            inr (
              there field_at a_field (all_show field_at (Node rule.Field ∷ []) (field_there, tt)) parts qs us both.0 h,
              comes_on (number_behind terminal.Equal) compared (behind_there terminal.Equal terminal.Number number_at number_there, tt) 2 parts next us f both.1 h,
            ))
      ])

  pub parts_found : (r : Rule) (us : List Tree) → ArePartsOf (Whole r) us → IsFound r us
  parts_found rule.Program us h = found (place_at terminal.End) (One terminal.End ∷ []) (token_there terminal.End, tt) rule.Program refl us h
  parts_found rule.Header us h = (name_in rule.Header refl us h, found next_at (Node rule.Next ∷ []) (next_there, tt) rule.Header refl us h)
  parts_found rule.Next us h = target_in rule.Next refl us h
  parts_found rule.Case us h = target_in rule.Case refl us h
  parts_found rule.Value us h = number_in_text rule.Value refl us h
  parts_found rule.Target us h = target_found us h
  parts_found rule.Meta us h = found token_place (One terminal.Meta ∷ []) (place_there terminal.Meta, tt) rule.Meta refl us h
  parts_found rule.Action us h = name_in rule.Action refl us h
  parts_found rule.Param us h = (name_in rule.Param refl us h, number_in_text rule.Param refl us h)
  parts_found rule.Field us h =
      listed word_at us (found word_at (One terminal.Name ∷ One terminal.Meta ∷ One terminal.InPort ∷ One terminal.OutPort ∷ One terminal.Drop ∷ [])
      (word_there terminal.Name refl, (word_there terminal.Meta refl, (word_there terminal.InPort refl, (word_there terminal.OutPort refl, (word_there terminal.Drop refl, tt))))) rule.Field refl us h)
  parts_found rule.Expr us h = found leaf_at (Node rule.Leaf ∷ []) (said_there rule.Leaf leaf_text leaf_found, tt) rule.Expr refl us h
  parts_found rule.Leaf us h = leaf_found us h
  parts_found rule.Table us h = (
    name_in rule.Table refl us h,
    comes (name_behind terminal.Default) ((One terminal.Default ∷ One terminal.Name ∷ []) ∷ []) (behind_there terminal.Default terminal.Name name_at name_there, tt) h.1 4 us refl h.2,
  )
  parts_found rule.Key us h = (
    found kind_at (One terminal.Exact ∷ One terminal.Prefix ∷ One terminal.Ternary ∷ [])
        (by_kind (λ c t. kind_of c) terminal.Exact (λ t. refl), (by_kind (λ c t. kind_of c) terminal.Prefix (λ t. refl), (by_kind (λ c t. kind_of c) terminal.Ternary (λ t. refl), tt))) rule.Key refl us h,
    number_in_text rule.Key refl us h,
  )
  parts_found rule.Control us h = tt
  parts_found rule.Block us h = tt
  parts_found rule.Stmt us h = (
    found token_place (One terminal.Apply ∷ One terminal.If ∷ []) (place_there terminal.Apply, (place_there terminal.If, tt)) rule.Stmt refl us h,
    statement_found us h.1 refl h.2,
  )
  parts_found rule.Arm us h =
      found arm_word (One terminal.Hit ∷ One terminal.Miss ∷ One terminal.Name ∷ [])
      (by_kind arm_if terminal.Hit (λ t. refl), (by_kind arm_if terminal.Miss (λ t. refl), (by_kind arm_if terminal.Name (λ t. refl), tt))) rule.Arm refl us h

-- in the tree of each rule
pub all_found : NodesHaveParts → TokensStand → (r : Rule) (t : Tree) → IsOf r t → IsFound r (parts t)
all_found nodes tokens r t h =
    let k = nodes r t h in subst (IsFound r) (sym (ap parts_of (ap out-Tree k.1 ∙ many r k.0))) (parts_found nodes tokens r k.0 k.2)
