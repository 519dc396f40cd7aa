-- The marks of a tree, by its parts.
use Rattle.std.proofs.Common.{◌≡◌, ◌∙◌, sym, ap, List, [], ◌∷◌, ◌++◌}
use Rattle.std.specs.List.{flat_map}
use Rattle.std.proofs.lemmas.List.Folds.{flat_map-map}
use Rattle.rmt_lexer.specs.declared.token.Token.{Token}
use Rattle.rmt_syntax.specs.declared.tree.Rule.{Rule}
use Rattle.rmt_syntax.specs.declared.tree.Tree.{Tree, One, Many}
use Rattle.rmt_syntax.specs.declared.tree.Tree.TheVariants.{rolls-One, rolls-Many}
use Rattle.rmt_syntax.specs.declared.tree.Tree.TheOpen as tree
use Rattle.rmt_syntax.specs.declared.tree.Tree.TheFolds.{fold-roll-Tree}
use Rattle.rmt_syntax.specs.Trees.{Mark, leaf, opens, shuts, marks, marks_step}

pub marks_one : (t : Token) → marks (One t) ≡ leaf t ∷ []
marks_one t = ap marks (sym (rolls-One t)) ∙ fold-roll-Tree (List Mark) marks_step (tree.One t)

pub marks_many : (r : Rule) (v : List Tree) → marks (Many r v) ≡ opens r ∷ (flat_map marks v ++ shuts r ∷ [])
marks_many r v =
    ap marks (sym (rolls-Many r v)) ∙ fold-roll-Tree (List Mark) marks_step (tree.Many r v) ∙ ap (λ ms. opens r ∷ (ms ++ shuts r ∷ [])) (flat_map-map (λ (ms : List Mark). ms) marks v)
