-- The marks of a text of the grammar are those of a tree, and of that tree alone; a tree that the grammar reads as a rule is a
-- node of that rule, and its parts, one after another, are those of the rule.
use Rattle.rmt_syntax.proofs.Words.{append-nil, ◌≡◌, ◌∙◌, sym, ap, refl, subst, List, [], ◌∷◌, ◌++◌, map, append_assoc, flat_map, Rule, Part, Phrase, Whole, Mark, leaf, opens, shuts, marks, Goal, part, phrase, shut, Reads, nothing, token, node, end, done, choose, Terminal, IsOf, AreParts, ArePartsOf, IsTokenOf, Follows, stop, onward}
use Rattle.rmt_syntax.specs.declared.tree.Tree.{Tree, One, Many, roll-Tree}
use Rattle.rmt_syntax.specs.declared.tree.Tree.TheOpen.{Tree-F}
use Rattle.rmt_syntax.specs.declared.tree.Tree.TheOpen as tree
use Rattle.rmt_syntax.specs.declared.tree.Tree.TheFolds.{ind-Tree, map-Tree}
use Rattle.rmt_syntax.specs.declared.tree.Tree.TheVariants.{rolls-One, rolls-Many}
use Rattle.rmt_syntax.specs.declared.grammar.Part.TheVariants as parts
use Rattle.rmt_syntax.proofs.Machine.{after_node, after_one}
use Rattle.rmt_syntax.proofs.MarkLaws.{marks_one, marks_many}

many_before : (r : Rule) (v : List Tree) (ms : List Mark) → marks (Many r v) ++ ms ≡ opens r ∷ (flat_map marks v ++ shuts r ∷ ms)
many_before r v ms = ap (λ m. m ++ ms) (marks_many r v) ∙ ap (λ m. opens r ∷ m) (append_assoc (flat_map marks v) (shuts r ∷ []) ms)

pub nothing_more : {ms : List Mark} → Reads [] ms → ms ≡ []
nothing_more nothing = refl

-- the trees that marks are read as, behind those that a node has so far, within the nodes around it
build : List Mark → List Tree → List (List Tree) → List Tree
build [] now outer = now
build (leaf t ∷ ms) now outer = build ms (now ++ One t ∷ []) outer
build (opens r ∷ ms) now outer = build ms [] (now ∷ outer)
build (shuts r ∷ ms) now [] = now
build (shuts r ∷ ms) now (o ∷ outer) = build ms (o ++ Many r now ∷ []) outer

-- the marks of a tree are read as that tree
abbrev IsBuilt : Tree → Type 0
IsBuilt t = (ms : List Mark) (now : List Tree) (outer : List (List Tree)) → build (marks t ++ ms) now outer ≡ build ms (now ++ t ∷ []) outer

each_built : (es : List ((t : Tree) × IsBuilt t)) (ms : List Mark) (now : List Tree) (outer : List (List Tree))
    → build (flat_map marks (map (λ e. e.0) es) ++ ms) now outer ≡ build ms (now ++ map (λ e. e.0) es) outer
each_built [] ms now outer = ap (λ v. build ms v outer) (sym (append-nil now))
each_built (e ∷ es) ms now outer =
    let others : List Tree = map (λ (x : (t : Tree) × IsBuilt t). x.0) es in
    ap (λ v. build v now outer) (append_assoc (marks e.0) (flat_map marks others) ms) ∙ e.1 (flat_map marks others ++ ms) now outer
    ∙ each_built es ms (now ++ e.0 ∷ []) outer ∙ ap (λ v. build ms v outer) (append_assoc now (e.0 ∷ []) others)

layer_built : (y : Tree-F ((t : Tree) × IsBuilt t)) → IsBuilt (roll-Tree (map-Tree ((t : Tree) × IsBuilt t) Tree (λ e. e.0) y))
unfolding build
layer_built (tree.One t) = subst IsBuilt (sym (rolls-One t)) (λ ms now outer. ap (λ v. build (v ++ ms) now outer) (marks_one t))
layer_built (tree.Many r es) =
    let parts : List Tree = map (λ (x : (t : Tree) × IsBuilt t). x.0) es in
    subst IsBuilt (sym (rolls-Many r parts)) (λ ms now outer. ap (λ v. build v now outer) (many_before r parts ms) ∙ each_built es (shuts r ∷ ms) [] (now ∷ outer))

built : (t : Tree) → IsBuilt t
built = ind-Tree IsBuilt (λ x y is. subst (λ z. IsBuilt (roll-Tree z)) is (layer_built y))

pub same_tree : (t u : Tree) → marks t ≡ marks u → t ≡ u
unfolding build
same_tree t u e = let same : t ∷ [] ≡ u ∷ [] = sym (built t [] [] []) ∙ ap (λ ms. build (ms ++ []) [] []) e ∙ built u [] [] [] in cc

-- The trees of these parts and then of a phrase, which marks begin with: they read so before anything.
record Parted (ps : List Part) (x : Phrase) (ms : List Mark) : Type 0 where
  trees : List Tree
  parts : List Part
  rest : List Mark
  all : ms ≡ flat_map marks trees ++ rest
  follows : Follows x parts
  each : AreParts (ps ++ parts) trees
  alone : (hs : List Goal) (after : List Mark) → Reads hs after → Reads (map part ps ++ phrase x ∷ hs) (flat_map marks trees ++ after)

-- marks are the trees of what is to come, one after another
abbrev Grown : List Goal → List Mark → Type 0
Grown [] ms = ms ≡ []
Grown (part p ∷ gs) ms = (t : Tree) × (rest : List Mark) × (ms ≡ marks t ++ rest)
    × ((hs : List Goal) (after : List Mark) → Reads hs after → Reads (part p ∷ hs) (marks t ++ after)) × Grown gs rest
Grown (phrase x ∷ gs) ms = (k : Parted [] x ms) × Grown gs k.rest
Grown (shut r ∷ gs) ms = (rest : List Mark) × (ms ≡ shuts r ∷ rest) × Grown gs rest

gather : (x : Phrase) (gs : List Goal) (ps : List Part) (ms : List Mark) → Grown (map part ps ++ phrase x ∷ gs) ms → (k : Parted ps x ms) × Grown gs k.rest
gather x gs [] ms g = g
gather x gs (p ∷ ps) ms g =
    let t : Tree = g.0 in
    let k = gather x gs ps g.1 g.4 in
    let ts : List Tree = k.0.trees in
    let now : Parted (p ∷ ps) x ms = record {
      trees = t ∷ ts;
      parts = k.0.parts;
      rest = k.0.rest;
      all = g.2 ∙ ap (λ v. marks t ++ v) k.0.all ∙ sym (append_assoc (marks t) (flat_map marks ts) k.0.rest);
      follows = k.0.follows;
      each = (subst (Reads (part p ∷ [])) (append-nil (marks t)) (g.3 [] [] nothing), k.0.each);
      alone = λ hs after w. subst (Reads (part p ∷ map part ps ++ phrase x ∷ hs)) (sym (append_assoc (marks t) (flat_map marks ts) after)) (g.3 _ _ (k.0.alone hs after w));
    } in (now, k.1)

grown : {gs : List Goal} {ms : List Mark} → Reads gs ms → Grown gs ms
grown nothing = refl
grown (token {c = c} {t = t} {ms = ms} is d) =
    let e = sym (marks_one t) in (One t, ms, ap (λ v. v ++ ms) e, (λ hs after w. subst (λ v. Reads (part (parts.One c) ∷ hs) (v ++ after)) e (token is w)), grown d)
grown (node {r = r} d) =
    let g = grown d in
    let ts : List Tree = g.0.trees in
    let e = ap (λ v. opens r ∷ v) (g.0.all ∙ ap (λ v. flat_map marks ts ++ v) g.1.1) ∙ sym (many_before r ts g.1.0) in
    (Many r ts, g.1.0, e, (λ hs after w. subst (Reads (part (parts.Node r) ∷ hs)) (sym (many_before r ts after)) (node (g.0.alone (shut r ∷ hs) (shuts r ∷ after) (end w)))), g.1.2)
grown (end {ms = ms} d) = (ms, refl, grown d)
grown (done {ms = ms} d) = (record { trees = []; parts = []; rest = ms; all = refl; follows = stop; each = tt; alone = λ hs after w. done w }, grown d)
grown (choose {x = x} {gs = gs} {ms = ms} i ps next is d) =
    let k = gather next gs ps ms (grown d) in
    let now : Parted [] x ms = record {
      trees = k.0.trees;
      parts = ps ++ k.0.parts;
      rest = k.0.rest;
      all = k.0.all;
      follows = onward i ps next is k.0.follows;
      each = k.0.each;
      alone = λ hs after w. choose i ps next is (k.0.alone hs after w);
    } in (now, k.1)

-- the marks of a rule's text are those of a node, and its parts are those of the rule
node_of : (r : Rule) (ms : List Mark) → Reads (part (parts.Node r) ∷ []) ms → (v : List Tree) × (ms ≡ marks (Many r v)) × ArePartsOf (Whole r) v
node_of r ms d =
    let a = after_node d in
    let g = grown a.2 in
    let ts : List Tree = g.0.trees in
    let ends : g.0.rest ≡ shuts r ∷ [] = g.1.1 ∙ ap (λ v. shuts r ∷ v) g.1.2 in
    (ts, a.1 ∙ ap (λ v. opens r ∷ v) (g.0.all ∙ ap (λ v. flat_map marks ts ++ v) ends) ∙ sym (marks_many r ts), (g.0.parts, g.0.follows, g.0.each))

pub tree_of : (r : Rule) (ms : List Mark) → Reads (part (parts.Node r) ∷ []) ms → (t : Tree) × (marks t ≡ ms)
tree_of r ms d = let k = node_of r ms d in (Many r k.0, sym k.1)

-- a tree that reads as a rule is a node of it
pub node_shape : (r : Rule) (t : Tree) → IsOf r t → (v : List Tree) × (t ≡ Many r v) × ArePartsOf (Whole r) v
node_shape r t d = let k = node_of r (marks t) d in (k.0, same_tree t (Many r k.0) k.1, k.2)

-- a tree that reads as a token is one
pub token_shape : (c : Terminal) (t : Tree) → Reads (part (parts.One c) ∷ []) (marks t) → IsTokenOf c t
token_shape c t d =
    let a = after_one d in
    (a.0, same_tree t (One a.0) (a.2 ∙ ap (λ v. leaf a.0 ∷ v) (nothing_more a.4) ∙ sym (marks_one a.0)), a.3)
