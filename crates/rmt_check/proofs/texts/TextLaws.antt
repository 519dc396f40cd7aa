-- A text of the grammar has the parts that its program needs.
use Rattle.std.proofs.Common.{◌≡◌, ◌≤◌, List, [], ◌∷◌, Some, Option, unwrap_or, length, All, refl, sym, ap, subst, ◌∙◌, ◌≢◌, codes, arith}
use Rattle.std.specs.Option.{IfSome}
use Rattle.std.specs.Prelude.{drop}
use Rattle.std.proofs.lemmas.List.Elements.{All-nil, All-cons, All-head, All-tail}
use Rattle.std.proofs.lemmas.Option.{none-some}
use Rattle.rmt_bits.proofs.OptionLaws.{IsSome-value}
use Rattle.rmt_check.specs.Parts.{Kind, Position, Token, Terminal, Rule, Ident, Number, Declared, CaseText, TailText, TableText}
use Rattle.rmt_syntax.specs.declared.tree.Tree.{Tree, out-Tree}
use Rattle.rmt_syntax.specs.declared.tree.Tree.TheOpen.{Tree-F}
use Rattle.rmt_syntax.specs.declared.grammar.Part.{Part}
use Rattle.rmt_syntax.specs.declared.grammar.Phrase.TheVariants.{Whole}
use Rattle.rmt_syntax.specs.Trees.{marks, part, Reads, IsOf, AreParts, ArePartsOf, IsText}
use Rattle.rmt_ast.specs.declared.program.Kind.TheVariants.{Keyless}
use Rattle.rmt_check.specs.Reading.{of_rule, parts_of, first, kind_at, name_at, field_at, value_at, value_text, case_text, kind_of, key_text, parts, number_at, place_at, joined, declared_at, tail_text, tail_at, next_at, next_among, case_at, header_text, header_at, key_at, table_text, table_at, source_of}
use Rattle.rmt_check.specs.Naming.{IsKeyText, HasKeyText, IsHeaderText, IsOfText, IsPlainWord, WordsArePlain}
use Rattle.rmt_check.proofs.ReadingLaws.{one, many}
use Rattle.rmt_check.proofs.texts.PhraseLaws.{NodesHaveParts, TokensStand, found, listed, is_text, made_of, first_seen, each_seen, or_default}
use Rattle.rmt_check.proofs.texts.FoundLaws.{name_in, field_there, made_there, parts_found}
use Rattle.rmt_syntax.specs.declared.tree.Tree.TheViews.{out-Tree}
use Rattle.rmt_check.proofs.texts.TokenLaws.{Through, parts_hold}
use Rattle.rmt_check.proofs.texts.WordLaws.{names_plain, name_plain, name_at_law}
use Rattle.rmt_check.proofs.Parents.{nodes_in_order}
use Rattle.rmt_syntax.specs.declared.terminal.Terminal.TheVariants as terminal
use Rattle.rmt_syntax.specs.declared.tree.Tree.TheOpen as tree
use Rattle.rmt_syntax.specs.declared.tree.Rule.TheVariants as rule
use Rattle.rmt_syntax.specs.declared.grammar.Part.TheVariants as parts

-- What the grammar gives of keys and cases.

-- a part of a text of the grammar
abbrev pub IsPart : Tree → Type 0
IsPart u = (p : Part) × Reads (part p ∷ []) (marks u)

-- a part of a text of the grammar, of whose tokens something holds
abbrev pub IsSoundPart : (Token → Type 0) → Tree → Type 0
IsSoundPart P u = Through P u × IsPart u

pub all_parts : (ps : List Part) (us : List Tree) → AreParts ps us → All IsPart us
all_parts [] [] h = All-nil IsPart
all_parts [] (u ∷ us) h = absurd h
all_parts (p ∷ ps) [] h = absurd h
all_parts (p ∷ ps) (u ∷ us) h = All-cons IsPart u us (p, h.0) (all_parts ps us h.1)

-- no token says that a key is not compared
kind_never : (c : Terminal) → kind_of c ≡ Some Keyless → ⊥
kind_never c e = grind arith

keyed : (ts : List Tree) (k : Kind) → All (λ t. Unit {0}) ts → kind_at ts ≡ Some k → k ≢ Keyless
keyed [] k h e = absurd (none-some k e)
keyed (u ∷ us) k h e = λ is. grind (arith, kind_never, e, is)

module _ (nodes : NodesHaveParts) (tokens : TokensStand) where
  -- a part that is a node has the parts of its rule
  pub node_parts : (u : Tree) → IsPart u → (r : Rule) (v : List Tree) → out-Tree u ≡ tree.Many r v → ArePartsOf (Whole r) v
  node_parts u (parts.One c, h) r v e =
      let k = tokens c u h in
      let it : tree.One k.0 ≡ tree.Many r v = sym (ap out-Tree k.1 ∙ one k.0) ∙ e in cc (it)
  node_parts u (parts.Node s, h) r v e =
      let k = nodes s u h in
      let it : tree.Many s k.0 ≡ tree.Many r v = sym (ap out-Tree k.1 ∙ many s k.0) ∙ e in
      let same_rule : s ≡ r = cc in
      let same_parts : k.0 ≡ v = cc in
      subst (λ w. ArePartsOf (Whole r) w) same_parts (subst (λ x. ArePartsOf (Whole x) k.0) same_rule k.2)

  pub key_law : (us : List Tree) → ArePartsOf (Whole rule.Key) us → IsKeyText (key_text us)
  key_law us h =
      let kind = IsSome-value (first kind_at us) (parts_found nodes tokens rule.Key us h).0 in
      record {
        kind = subst (λ o. unwrap_or o Keyless ≢ Keyless) (sym kind.1)
            (subst (λ o. IfSome o (λ k. k ≢ Keyless)) kind.1 (first_seen (λ t. Unit {0}) (λ (k : Kind). k ≢ Keyless) kind_at keyed us (λ k d lt. tt)));
        fields = listed field_at us (found field_at (parts.Node rule.Field ∷ []) (field_there nodes tokens, tt) rule.Key refl us h);
        actions = listed name_at us (name_in nodes tokens rule.Key refl us h);
      }

  pub case_law : (us : List Tree) → ArePartsOf (Whole rule.Case) us → 1 ≤ length (case_text us).values
  case_law us h = listed value_at us (found value_at (parts.Node rule.Value ∷ []) (made_there nodes tokens rule.Value value_text, tt) rule.Case refl us h)

  pub text_parts : (t : Tree) → IsOf rule.Program t → All IsPart (parts_of (out-Tree t))
  text_parts t h =
      let k = nodes rule.Program t h in
      subst (λ x. All IsPart (parts_of x)) (sym (ap out-Tree k.1 ∙ many rule.Program k.0)) (all_parts k.2.0 k.0 k.2.2)

-- What is made of the parts of a text, of whose tokens something holds.

module _ (nodes : NodesHaveParts) (tokens : TokensStand) (P : Token → Type 0) where
  sound_parts : (u : Tree) (x : Tree-F Tree) → out-Tree u ≡ x → IsSoundPart P u → All (IsSoundPart P) (parts_of x)
  sound_parts u (tree.One t) e h = All-nil (IsSoundPart P)
  sound_parts u (tree.Many r v) e h =
      let grown = node_parts nodes tokens u h.1 r v e in
      let held = parts_hold P u (tree.Many r v) e h.0 in
      let all = all_parts grown.0 v grown.2 in
      λ k d lt. (held k d lt, all k d lt)

  -- what is made of the parts of a rule
  pub made_sound : {A : Type 0} (Q : A → Type 0) (r : Rule) (make : List Tree → A) → ((v : List Tree) → ArePartsOf (Whole r) v → All (IsSoundPart P) v → Q (make v))
      → (ts : List Tree) (a : A) → All (IsSoundPart P) ts → of_rule r make ts ≡ Some a → Q a
  made_sound Q r make law [] a h e = absurd (none-some a e)
  made_sound Q r make law (u ∷ us) a h e =
      let m = made_of r make u us a e in
      let sound = All-head (IsSoundPart P) u us h in
      subst Q m.2 (law m.0 (node_parts nodes tokens u sound.1 r m.0 m.1) (sound_parts u (tree.Many r m.0) m.1 sound))

  -- the parts of a whole text
  pub all_sound : (t : Tree) → IsText (marks t) → Through P t → All (IsSoundPart P) (parts t)
  all_sound t text held =
      let grown = text_parts nodes tokens t text in
      let each = parts_hold P t (out-Tree t) refl held in
      λ k d lt. (each k d lt, grown k d lt)

-- What the words of a text give of its headers.

-- a part whose words have no dot
abbrev IsSound : Tree → Type 0
IsSound = IsSoundPart IsPlainWord

-- no name is the reserved `valid`
abbrev NotValid : Ident → Type 0
NotValid i = i.name ≢ codes "valid"

declared_name : (i : Option Ident) (p : Option Position) (n : Option Number) (d : Declared) → joined i p n ≡ Some d → i ≡ Some d.ident
declared_name i p n d e = grind arith

declared_plain : (ts : List Tree) (d : Declared) → All WordsArePlain ts → declared_at ts ≡ Some d → NotValid d.ident
declared_plain ts d h e = (name_at_law ts d.ident h (declared_name (name_at ts) (place_at terminal.Colon (drop 1 ts)) (number_at (drop 2 ts)) d e)).not_valid

tail_name : (p : Option Position) (i : Option Ident) (m n : Option Number) (t : TailText) → tail_text p i m n ≡ Some t → i ≡ Some t.field
tail_name p i m n t e = grind arith

tail_plain : (ts : List Tree) (t : TailText) → All WordsArePlain ts → tail_at ts ≡ Some t → NotValid t.field
tail_plain [] t h e = absurd (none-some t e)
tail_plain (a ∷ ts) t h e =
    (name_at_law ts t.field (All-tail WordsArePlain a ts h)
    (tail_name (place_at terminal.Tail (a ∷ ts)) (name_at ts) (number_at (drop 2 ts)) (number_at (drop 4 ts)) t e)).not_valid

module _ (nodes : NodesHaveParts) (tokens : TokensStand) where
  next_sound : (ts vs : List Tree) → All IsSound ts → next_at ts ≡ Some vs → All IsSound vs
  next_sound [] vs h e = absurd (none-some vs e)
  next_sound (u ∷ us) vs h e = sound_parts nodes tokens IsPlainWord u (tree.Many rule.Next vs) (is_text rule.Next (out-Tree u) vs e) (All-head IsSound u us h)

  abbrev HasValue : CaseText → Type 0
  HasValue c = 1 ≤ length c.values

  header_law : (ts : List Tree) → All IsSound ts → IsHeaderText (header_text ts)
  header_law ts h =
      let plain : All WordsArePlain ts = λ k d lt. (h k d lt).0 in
      let name = name_plain ts plain in
      let next : All IsSound (next_among ts) = or_default (All IsSound) (first next_at ts) [] (first_seen IsSound (All IsSound) next_at next_sound ts h) (All-nil IsSound) in
      let selected = names_plain (next_among ts) (λ k d lt. (next k d lt).0) in
      record {
        no_dot = name.no_dot;
        not_meta = name.not_meta;
        fields = each_seen WordsArePlain (λ (d : Declared). NotValid d.ident) declared_at declared_plain ts plain;
        tail = first_seen WordsArePlain (λ (t : TailText). NotValid t.field) tail_at tail_plain ts plain;
        select = λ k d lt. (selected k d lt).not_valid;
        cases = each_seen IsSound HasValue case_at (made_sound nodes tokens IsPlainWord HasValue rule.Case case_text (λ v parts s. case_law nodes tokens v parts)) (next_among ts) next;
      }

  table_law : (ts : List Tree) → All IsSound ts → HasKeyText (table_text ts).key
  table_law = first_seen IsSound IsKeyText key_at (made_sound nodes tokens IsPlainWord IsKeyText rule.Key key_text (λ v parts s. key_law nodes tokens v parts))

  pub text_law : (t : Tree) → IsText (marks t) → WordsArePlain t → IsOfText (source_of t)
  text_law t text plain =
      let all = all_sound nodes tokens IsPlainWord t text plain in
      record {
        headers = each_seen IsSound IsHeaderText header_at (made_sound nodes tokens IsPlainWord IsHeaderText rule.Header header_text (λ v parts s. header_law v s)) (parts t) all;
        tables = each_seen IsSound (λ (x : TableText). HasKeyText x.key) table_at
            (made_sound nodes tokens IsPlainWord (λ (x : TableText). HasKeyText x.key) rule.Table table_text (λ v parts s. table_law v s)) (parts t) all;
        nodes = nodes_in_order (parts t);
      }
