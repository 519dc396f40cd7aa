use Rattle.std.proofs.Common.{◌≡◌, ◌∙◌, ◌⊎◌, inl, inr, ℕ, List, Option, Some, None, Result, Ok, Err, refl, sym, ap, subst}
use Rattle.rmt_check.specs.Parts.{Program, Position, ProgramFault, Token, Tree}
use Rattle.rmt_ast.specs.WellFormed.{IsProgram}
use Rattle.rmt_lexer.specs.declared.fault.ProgramFault.TheVariants.{NoMemory, At}
use Rattle.rmt_lexer.specs.Text.{tokens_of}
use Rattle.rmt_syntax.specs.Trees.{HasFault, HasTree, IsFault, IsTreeOf}
use Rattle.rmt_check.specs.NamedTexts.{HasNameForms, IsShortFor}
use Rattle.rmt_check.specs.Reading.{source_of}
use Rattle.rmt_check.specs.Rules.{fault_of}
use Rattle.rmt_check.specs.Meaning.{program_of}
use Rattle.rmt_check.specs.Means.{Means, Outcome, fault_at, of_tokens, of_grammar, of_rules, of_program}
use Rattle.rmt_check.proofs.programs.ListedLaws.{program_short}
use Rattle.rmt_check.proofs.laws.one_meaning.Goals as goal

module _ (known : goal.After-text_has_names) (text : List ℕ) where
  by_rules : (tokens : List Token) (t : Tree) (o : Option (ℕ × Position)) → fault_of (source_of t) ≡ o → tokens_of text ≡ Ok tokens → IsTreeOf tokens t → (m : Outcome) × Means text m
  by_rules tokens t None e is tree = (Ok (program_of (source_of t)), of_program tokens t is tree e)
  by_rules tokens t (Some f) e is tree = (Err f, of_rules tokens t f is tree e)

  by_tree : (tokens : List Token) → tokens_of text ≡ Ok tokens → HasTree tokens ⊎ HasFault tokens → (m : Outcome) × Means text m
  by_tree tokens is (inl t) = by_rules tokens t.0 (fault_of (source_of t.0)) refl is t.1
  by_tree tokens is (inr f) = (fault_at f.0 f.1 f.2, of_grammar tokens f.0 f.1 f.2 is f.3)

  by_tokens : (r : Result (List Token) ProgramFault) → tokens_of text ≡ r → (m : Outcome) × Means text m
  by_tokens (Ok tokens) is = by_tree tokens is (known.tree_or_fault.ensures.some tokens (known.tokens_or_fault.ensures.ends text tokens is))
  by_tokens (Err NoMemory) is = absurd (known.tokens_or_fault.ensures.fault text is)
  by_tokens (Err (At code line column)) is = (fault_at code line column, of_tokens code line column is)

  meaning : (m : Outcome) × Means text m
  meaning = by_tokens (tokens_of text) refl

  same_tokens : (a b : List Token) → tokens_of text ≡ Ok a → tokens_of text ≡ Ok b → a ≡ b
  same_tokens a b ea eb = let e : ◌≡◌ {A = Result (List Token) ProgramFault} (Ok a) (Ok b) = sym ea ∙ eb in cc

  same_tree : (a b : List Token) (t u : Tree) → tokens_of text ≡ Ok a → tokens_of text ≡ Ok b → IsTreeOf a t → IsTreeOf b u → t ≡ u
  same_tree a b t u ea eb ht hu = known.tree_or_fault.ensures.one_tree a t u (known.tokens_or_fault.ensures.ends text a ea) ht (subst (λ ts. IsTreeOf ts u) (same_tokens b a eb ea) hu)

  no_tree : (a b : List Token) (t : Tree) (code line column : ℕ) → tokens_of text ≡ Ok a → tokens_of text ≡ Ok b → IsTreeOf a t → IsFault b code line column → ⊥
  no_tree a b t code line column ea eb ht hf = known.tree_or_fault.ensures.apart a (known.tokens_or_fault.ensures.ends text a ea) (t, ht) (code, line, column, subst (λ ts. IsFault ts code line column) (same_tokens b a eb ea) hf)

  alone : {m n : Outcome} → Means text m → Means text n → m ≡ n
  alone (of_tokens a l c e) (of_tokens b m d f) =
      let same : ◌≡◌ {A = Result (List Token) ProgramFault} (Err (At a l c)) (Err (At b m d)) = sym e ∙ f in
      let p : a ≡ b = cc in let q : l ≡ m = cc in let r : c ≡ d = cc in cc
  alone (of_tokens a l c e) (of_grammar ts b m d f g) = cc
  alone (of_tokens a l c e) (of_rules ts t g f h i) = cc
  alone (of_tokens a l c e) (of_program ts t f h i) = cc
  alone (of_grammar ts a l c e f) (of_tokens b m d g) = cc
  alone (of_grammar ts a l c e f) (of_grammar us b m d g h) =
      let r = known.tree_or_fault.ensures.one_fault ts a b l m c d (known.tokens_or_fault.ensures.ends text ts e) f (subst (λ vs. IsFault vs b m d) (same_tokens us ts g e) h) in cc (r.0, r.1, r.2)
  alone (of_grammar ts a l c e f) (of_rules us t g h i j) = absurd (no_tree us ts t a l c h e i f)
  alone (of_grammar ts a l c e f) (of_program us t g h i) = absurd (no_tree us ts t a l c g e h f)
  alone (of_rules ts t f e h i) (of_tokens b m d g) = cc
  alone (of_rules ts t f e h i) (of_grammar us b m d g j) = absurd (no_tree ts us t b m d e g h j)
  alone (of_rules ts t f e h i) (of_rules us u g d j l) =
      let same = same_tree ts us t u e d h j in
      let told : ◌≡◌ {A = Option (ℕ × Position)} (Some f) (Some g) = sym i ∙ ap (λ v. fault_of (source_of v)) same ∙ l in
      let it : f ≡ g = cc in
      ap (λ (x : ℕ × Position). Err x) it
  alone (of_rules ts t f e h i) (of_program us u d j l) =
      let same = same_tree ts us t u e d h j in
      let told : ◌≡◌ {A = Option (ℕ × Position)} (Some f) None = sym i ∙ ap (λ v. fault_of (source_of v)) same ∙ l in cc
  alone (of_program ts t e h i) (of_tokens b m d g) = cc
  alone (of_program ts t e h i) (of_grammar us b m d g j) = absurd (no_tree ts us t b m d e g h j)
  alone (of_program ts t e h i) (of_rules us u g d j l) =
      let same = same_tree ts us t u e d h j in
      let told : ◌≡◌ {A = Option (ℕ × Position)} None (Some g) = sym i ∙ ap (λ v. fault_of (source_of v)) same ∙ l in cc
  alone (of_program ts t e h i) (of_program us u d j l) = ap (λ v. Ok (program_of (source_of v))) (same_tree ts us t u e d h j)

-- what holds of the program of each tree without a fault holds of the program that a text means
meant : (P : Program → Type 0) (text : List ℕ)
    → ((tokens : List Token) (t : Tree) → tokens_of text ≡ Ok tokens → IsTreeOf tokens t → fault_of (source_of t) ≡ None → P (program_of (source_of t)))
    → {m : Outcome} (p : Program) → Means text m → m ≡ Ok p → P p
meant P text law p (of_tokens a l c e) is = cc
meant P text law p (of_grammar ts a l c e f) is = cc
meant P text law p (of_rules ts t f e h i) is = cc
meant P text law p (of_program ts t e h i) is = let it : program_of (source_of t) ≡ p = cc in subst P it (law ts t e h i)

pub returns-clause-some : goal.returns-clause-some
returns-clause-some c text = meaning c text

pub returns-clause-alone : goal.returns-clause-alone
returns-clause-alone c text m n h g = alone c text h g

pub returns-clause-formed : goal.returns-clause-formed
returns-clause-formed c text p h = meant IsProgram text (λ tokens t e tree none. c.answer_is_well_formed.ensures text tokens t (program_of (source_of t)) e tree (none, refl)) p h refl

pub returns-clause-named : goal.returns-clause-named
returns-clause-named c text p h = meant HasNameForms text (λ tokens t e tree none. c.text_has_names.ensures text tokens t e tree) p h refl

pub returns-clause-short : goal.returns-clause-short
returns-clause-short c text p h = meant (IsShortFor text) text (program_short text) p h refl
