-- Each node of a control stands in an arm of one of its nodes, an earlier one.
use Rattle.std.proofs.Common.{◌≡◌, ℕ, ◌+◌, ◌<◌, ◌≤◌, List, [], ◌∷◌, ◌++◌, Bool, if◌then◌else◌, None, Some, Option, unwrap_or, map, filter_map, fold, length, get_or, All, sym, ap, subst, ◌∙◌, length-append, arith}
use Rattle.std.specs.List.{cons_option, enumerate_from}
use Rattle.std.proofs.lemmas.Bool.{cond_both}
use Rattle.std.proofs.lemmas.List.Elements.{All-nil, All-cons, All-head, All-tail, All-map}
use Rattle.std.proofs.lemmas.Option.{none-some, slice_get-get_or}
use Rattle.rmt_syntax.specs.declared.tree.Tree.{Tree, roll-Tree, out-Tree, out-roll-Tree}
use Rattle.rmt_syntax.specs.declared.tree.Tree.TheVariants.{rolls-One}
use Rattle.rmt_syntax.specs.declared.tree.Tree.TheOpen.{Tree-F}
use Rattle.rmt_syntax.specs.declared.tree.Tree.TheFolds.{fold-Tree, map-Tree, ind-Tree, fold-roll-Tree}
use Rattle.rmt_check.specs.Parts.{Rule, Under, NodeText}
use Rattle.rmt_ast.specs.WellFormed.{AllNumbered}
use Rattle.rmt_ast.proofs.WellFormedLemmas.{AllNumbered-none, AllNumbered-push}
use Rattle.rmt_check.specs.Reading.{parts_of, node_text, Adds, Read, all_added, is_arm, arm_adds, with_arm, statement_added, is_statement, text_added, reads, layer_added, added, control_text, control_at, control_among, parts, source_of}
use Rattle.rmt_check.specs.Naming.{IsUnder}
use Rattle.rmt_check.proofs.texts.PhraseLaws.{made_of, first_seen, or_default}
use Rattle.rmt_check.proofs.ReadingLaws.{owns, reads_own, added_one}
use Rattle.rmt_check.specs.Names.{nodes_of}
use Rattle.rmt_check.specs.Sizes.{AreNested}
use Rattle.rmt_syntax.specs.declared.tree.Tree.TheOpen as tree
use Rattle.rmt_syntax.specs.declared.tree.Rule.TheVariants as rule

-- A node of the control stands in an arm of an earlier node.

-- each node stands in an arm of an earlier one
abbrev pub InOrder : List NodeText → Type 0
InOrder ns = AllNumbered (λ n (x : NodeText). IsUnder n x.under) ns

-- nodes in their order, at least so many
record Grows (least : ℕ) (ns : List NodeText) : Type 0 where
  order : InOrder ns
  long : least ≤ length ns

pub later : (m n : ℕ) (under : Option Under) → m ≤ n → IsUnder m under → IsUnder n under
later m n under le h = grind arith

-- what is added keeps the order
abbrev Keeps : Adds → Type 0
Keeps add = (before : List NodeText) (under : Option Under) → InOrder before → IsUnder (length before) under → Grows (length before) (add under before)

all_keep : (adds : List Adds) → All Keeps adds → Keeps (all_added adds)
all_keep [] keeps ns under order stands = record { order = order; long = omega arith }
all_keep (a ∷ adds) keeps ns under order stands =
    let one = All-head Keeps a adds keeps ns under order stands in
    let rest = all_keep adds (All-tail Keeps a adds keeps) (a under ns) under one.order (later (length ns) (length (a under ns)) under one.long stands) in
    record { order = rest.order; long = let l = one.long in let m = rest.long in omega arith }

arms_keep : (parent n : ℕ) (adds : List Adds) → All Keeps adds → (ns : List NodeText) → InOrder ns → parent < length ns → Grows (length ns) (fold (with_arm parent) ns (enumerate_from n adds))
arms_keep parent n [] keeps ns order less = record { order = order; long = omega arith }
arms_keep parent n (a ∷ adds) keeps ns order less =
    let u : Under = record { parent = parent; arm = n } in
    let one = All-head Keeps a adds keeps ns (Some u) order less in
    let rest = arms_keep parent (n + 1) adds (All-tail Keeps a adds keeps) (a (Some u) ns) one.order (let l = one.long in omega arith) in
    record { order = rest.order; long = let l = one.long in let m = rest.long in omega arith }

-- trees whose nodes keep the order
abbrev ReadsKeep : List Read → Type 0
ReadsKeep rs = All (λ (r : Read). Keeps r.1) rs

arm_keeps : (b : Bool) (add : Adds) (adds : List Adds) → Keeps add → All Keeps adds → All Keeps (cons_option (if b then Some add else None) adds)
arm_keeps b add adds one rest = grind (arith, All-cons)

arms_of : (rs : List Read) → ReadsKeep rs → All Keeps (filter_map arm_adds rs)
arms_of [] h = All-nil Keeps
arms_of (r ∷ rs) h = arm_keeps (is_arm (out-Tree r.0)) r.1 (filter_map arm_adds rs) (All-head (λ (x : Read). Keeps x.1) r rs h) (arms_of rs (All-tail (λ (x : Read). Keeps x.1) r rs h))

statement_keeps : (rs : List Read) → ReadsKeep rs → Keeps (statement_added rs)
statement_keeps rs keeps ns under order stands =
    let node = node_text under (map (λ (r : Read). r.0) rs) in
    let pushed : length (ns ++ node ∷ []) ≡ length ns + 1 = length-append ns (node ∷ []) in
    let arms = arms_keep (length ns) 0 (filter_map arm_adds rs) (arms_of rs keeps) (ns ++ node ∷ []) (AllNumbered-push (λ n (x : NodeText). IsUnder n x.under) ns node order stands) (omega arith) in
    record { order = arms.order; long = let l = arms.long in omega arith }

text_keeps : (r : Rule) (rs : List Read) → ReadsKeep rs → Keeps (text_added r rs)
text_keeps r rs keeps =
    let adds : List Adds = map (λ (x : Read). x.1) rs in
    cond_both (is_statement r) (statement_added rs) (all_added adds) Keeps (λ e. statement_keeps rs keeps) (λ e. all_keep adds (All-map Keeps (λ (x : Read). x.1) rs keeps))

-- a tree whose nodes keep the order
abbrev TreeKeeps : Tree → Type 0
TreeKeeps t = Keeps (added t)

own_keep : (es : List ((t : Tree) × TreeKeeps t)) → ReadsKeep (owns (map (λ e. e.0) es))
own_keep [] = All-nil (λ (x : Read). Keeps x.1)
own_keep (e ∷ es) = All-cons (λ (x : Read). Keeps x.1) (e.0, added e.0) (owns (map (λ (d : (t : Tree) × TreeKeeps t). d.0) es)) e.1 (own_keep es)

layer_keeps : (y : Tree-F ((t : Tree) × TreeKeeps t)) → TreeKeeps (roll-Tree (map-Tree ((t : Tree) × TreeKeeps t) Tree (λ e. e.0) y))
layer_keeps (tree.One t) = subst TreeKeeps (sym (rolls-One t)) (λ ns under order stands. subst (Grows (length ns)) (sym (added_one t under ns)) (record { order = order; long = omega arith }))
layer_keeps (tree.Many r v) =
    let x : Tree-F Tree = map-Tree ((t : Tree) × TreeKeeps t) Tree (λ e. e.0) (tree.Many r v) in
    let inner : List Tree = map (λ (e : (t : Tree) × TreeKeeps t). e.0) v in
    let same : added (roll-Tree x) ≡ text_added r (owns inner) =
    ap (λ (f : Tree → Adds). f (roll-Tree x)) (fold-roll-Tree (Tree → Adds) layer_added x)
    ∙ ap (λ (y : Tree-F Tree). text_added r (reads (map (fold-Tree (Tree → Adds) layer_added) inner) (parts_of y))) (out-roll-Tree x) ∙ ap (text_added r) (reads_own inner) in
    subst Keeps (sym same) (text_keeps r (owns inner) (own_keep v))

tree_keeps : (t : Tree) → TreeKeeps t
tree_keeps = ind-Tree TreeKeeps (λ x y is. subst (λ z. TreeKeeps (roll-Tree z)) is (layer_keeps y))

-- the nodes of a control
trees_keep : (ts : List Tree) → All Keeps (map added ts)
trees_keep ts = All-map Keeps added ts (λ k d lt. tree_keeps (get_or ts k d))

control_order : (ts : List Tree) (ns : List NodeText) → All (λ t. Unit {0}) ts → control_at ts ≡ Some ns → InOrder ns
control_order [] ns h e = absurd (none-some ns e)
control_order (u ∷ us) ns h e =
    let m = made_of rule.Control control_text u us ns e in
    subst InOrder m.2 (all_keep (map added m.0) (trees_keep m.0) [] None (AllNumbered-none (λ n (x : NodeText). IsUnder n x.under)) tt).order

pub nodes_in_order : (ts : List Tree) → InOrder (unwrap_or (control_among ts) [])
nodes_in_order ts =
    or_default InOrder (control_among ts) [] (first_seen (λ t. Unit {0}) InOrder control_at control_order ts (λ k d lt. tt))
    (AllNumbered-none (λ n (x : NodeText). IsUnder n x.under))

-- Each node of a control stands in an arm of one of its nodes.

pub nested : (t : Tree) → AreNested (source_of t)
nested t k d lt =
    let ns = nodes_of (source_of t) in
    let n = get_or ns k d in later k (length ns) n.under (omega arith) (nodes_in_order (parts t) k n (slice_get-get_or ns k d lt))
