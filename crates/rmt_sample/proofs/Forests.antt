-- Forests: trees one after another, of which the tokens and the marks are computed.
use Rattle.std.proofs.Common.{◌≡◌, ◌∙◌, ap, refl, List, [], ◌∷◌, ◌++◌, append_assoc}
use Rattle.std.specs.List.{flat_map}
use Rattle.rmt_lexer.specs.declared.token.Token.{Token}
use Rattle.rmt_syntax.specs.declared.tree.Rule.{Rule}
use Rattle.rmt_syntax.specs.declared.tree.Tree.{Tree, One, Many}
use Rattle.rmt_syntax.specs.Trees.{Mark, leaf, opens, shuts, marks}
use Rattle.rmt_syntax.proofs.MarkLaws.{marks_one, marks_many}

-- no tree, or one and what stands behind it
pub data Forest : Type 0 where
  nil : Forest
  one : Token → Forest → Forest
  many : Rule → Forest → Forest → Forest

-- some tokens, and what stands behind them
abbrev pub run : List Token → Forest → Forest
run [] f = f
run (t ∷ ts) f = one t (run ts f)

abbrev pub trees : Forest → List Tree
trees nil = []
trees (one t f) = One t ∷ trees f
trees (many r inner f) = Many r (trees inner) ∷ trees f

abbrev pub marks_of : Forest → List Mark
marks_of nil = []
marks_of (one t f) = leaf t ∷ marks_of f
marks_of (many r inner f) = opens r ∷ (marks_of inner ++ shuts r ∷ marks_of f)

pub marks_trees : (f : Forest) → flat_map marks (trees f) ≡ marks_of f
marks_trees nil = refl
marks_trees (one t f) = ap (λ ms. ms ++ flat_map marks (trees f)) (marks_one t) ∙ ap (λ ms. leaf t ∷ ms) (marks_trees f)
marks_trees (many r inner f) =
    ap (λ ms. ms ++ flat_map marks (trees f)) (marks_many r (trees inner) ∙ ap (λ ms. opens r ∷ (ms ++ shuts r ∷ [])) (marks_trees inner))
    ∙ ap (λ ms. opens r ∷ ms) (append_assoc (marks_of inner) (shuts r ∷ []) (flat_map marks (trees f)))
    ∙ ap (λ ms. opens r ∷ (marks_of inner ++ shuts r ∷ ms)) (marks_trees f)

-- of one tree
pub marks_tree : (r : Rule) (f : Forest) → marks (Many r (trees f)) ≡ opens r ∷ (marks_of f ++ shuts r ∷ [])
marks_tree r f = marks_many r (trees f) ∙ ap (λ ms. opens r ∷ (ms ++ shuts r ∷ [])) (marks_trees f)
