-- The names of a program with its entries are spelled with few bytes: those of its text, and eight for each rank.
use Rattle.std.proofs.Common.{◌≡◌, ℕ, suc, ◌+◌, ◌*◌, ◌<◌, ◌≤◌, Bool, true, false, cond, List, [], ◌∷◌, ◌++◌, Option, Some, None, length, map, slice_get, option_map, unwrap_or, refl, sym, ap, subst, ◌∙◌, length-append, add-zero, zero-add, arith}
use Rattle.std.specs.Prelude.{All, count_by, option_and_then}
use Rattle.std.specs.List.{cons_option, enumerate_from, flat_map, range_with_len, sum_by}
use Rattle.std.proofs.lemmas.Bool.{false≢true}
use Rattle.std.proofs.lemmas.List.{length-map}
use Rattle.std.proofs.lemmas.List.Elements.{All-head, All-tail}
use Rattle.std.proofs.lemmas.List.Sums.{sum-map, sum_by-cons, sum_by-le-sum_by}
use Rattle.std.proofs.lemmas.Option.{slice_get-get_or, slice_get_within}
use Rattle.rmt_bits.proofs.AllLaws.{All-slice_get}
use Rattle.rmt_bits.proofs.ListLaws.{slice_get-item}
use Rattle.rmt_core.specs.Types.{Program, Field, Action, Table, Node, What}
use Rattle.rmt_ast.specs.declared.entry.Entry.{Entry}
use Rattle.rmt_ast.specs.declared.names.TableName.{TableName}
use Rattle.rmt_ast.specs.declared.program.Kind.{Kind}
use Rattle.rmt_ast.specs.declared.program.Kind.TheVariants.{Keyless, Exact, Prefix, Ternary}
use Rattle.rmt_ast.specs.declared.program.What.TheVariants.{Apply, Gate}
use Rattle.rmt_ast.specs.EntryLists.{params_of, terms_at, terms_of}
use Rattle.rmt_ast.specs.Naming.{action_named, has_key, if_keyed, name_of_action, named_at, named_from, names_of, ranks_in, ranks_of, table_named}
use Rattle.rmt_ast.specs.State.{width_of}
use Rattle.rmt_ast.specs.WellFormed.{HasKey, IsAction, IsKeyed, IsProgram, IsTable, IsWidth, applies}
use Rattle.rmt_check.specs.NamedTexts.{name_bytes}
use Rattle.rmt_config.specs.ImageSpelling.{spelled_action, spelled_name, spelled_names, spelled_rank, spelled_ranks, spelled_table, spelled_table_kind}
use Rattle.rmt_config.specs.Spelling.{four_bytes, spelled_list16, spelled_list8}
use Rattle.rmt_entries.specs.Entries.{by_node, entries_at}
use Rattle.rmt_entries.proofs.GatherLaws.{by_node_at, length-by_node}
use Rattle.rmt_core.proofs.size.Lines.{rank_weight}
use Rattle.rmt_items.proofs.size.Lists.{flat_map_short}
use Rattle.rmt_core.proofs.size.Ranks.{ranked_entries, ranked_few, ranks_few}
use Rattle.rmt_core.proofs.size.Sums.{by_number, one_least, only, sum_by-both, weight_at}
use Rattle.rmt_core.proofs.size.Tables.{has_ranks, is_ranked, ranked_at, terms_have_ranks}

-- ---- ranks

ranks_short : (kind : Kind) (es : List Entry) → length (spelled_ranks kind (ranks_of kind es)) ≤ 4 + 8 * cond (has_ranks kind) (length es) 0
ranks_short Keyless es = omega arith
ranks_short Exact es = omega arith
ranks_short Prefix es = omega arith
ranks_short Ternary es =
    let ranks = ranks_in es in
    let all = flat_map_short spelled_rank 8 (length ranks) ranks (omega arith) (λ k d lt. omega arith) in
    let front = length-append (four_bytes (length ranks)) (flat_map spelled_rank ranks) in
    omega (arith, all, front, ranks_few es)

-- the widths of fields or parameters, a byte each
widths_short : (ws : List ℕ) → length (flat_map (λ width. width ∷ []) ws) ≤ length ws
widths_short ws =
    let all = flat_map_short (λ width. width ∷ []) 1 (length ws) ws (omega arith) (λ k d lt. omega arith) in
    omega (arith, all)

name_short : (name : List ℕ) → length (spelled_name name) ≡ 4 + length name
name_short name = omega (arith, length-append (four_bytes (length name)) name)

module _ (p : Program) (program : IsProgram p) where
  -- ---- a table

  few_params : (a : ℕ) → length (params_of p a) ≤ 16
  few_params a = by (slice_get p.actions a) refl
    where
      by : (o : Option Action) → slice_get p.actions a ≡ o → length (unwrap_or (option_map (λ (x : Action). x.params) o) []) ≤ 16
      by None e = omega arith
      by (Some x) e = (All-slice_get (IsAction p) p.actions a x program.actions e).few_params

  action_short : (a : ℕ) → length (spelled_action (action_named p a)) ≤ 21 + length (name_of_action p a)
  action_short a =
      let params = params_of p a in
      let name = name_of_action p a in
      let all = length-append (spelled_name name) (spelled_list8 (λ width. width ∷ []) params) in
      omega (arith, all, name_short name, widths_short params, few_params a)

  actions_short : (list : List ℕ) → length (flat_map spelled_action (map (action_named p) list)) ≤ 21 * length list + sum_by (λ a. length (name_of_action p a)) list
  actions_short [] = omega arith
  actions_short (a ∷ list) =
      let all = length-append (spelled_action (action_named p a)) (flat_map spelled_action (map (action_named p) list)) in
      omega (arith, all, action_short a, actions_short list, sum_by-cons (λ b. length (name_of_action p b)) a list)

  -- fields have at least one bit each
  some_bits : (fs : List ℕ) → All (λ f. f < length p.fields) fs → length fs ≤ sum_by (width_of p) fs
  some_bits [] h = omega arith
  some_bits (f ∷ fs) h =
      let item = slice_get-item p.fields f (All-head (λ g. g < length p.fields) f fs h) in
      let wide : 1 ≤ width_of p f =
      subst (λ n. 1 ≤ n) (sym (ap (λ o. unwrap_or (option_map (λ (x : Field). x.width) o) 0) item.1))
      (All-slice_get (λ (x : Field). IsWidth x.width) p.fields f item.0 program.fields.widths item.1).0 in
      omega (arith, wide, some_bits fs (All-tail (λ g. g < length p.fields) f fs h), sum_by-cons (width_of p) f fs)

  keyed : (kind : Kind) (t : Table) → HasKey p kind t → has_key kind ≡ true → IsKeyed p t
  keyed Keyless t h e = absurd (false≢true e)
  keyed Exact t h e = h
  keyed Prefix t h e = h.0
  keyed Ternary t h e = h

  few_keys : (t : Table) → IsKeyed p t → length t.key ≤ 640
  few_keys t k = omega (arith, some_bits t.key k.key_fields, sum-map (width_of p) t.key, k.key_bits)

  table_short : (n : ℕ) (es : List Entry) (t : Table) → IsTable p t → has_key t.kind ≡ true
      → length (spelled_table (table_named p n es t)) ≤ 960 + name_bytes p t + 8 * cond (has_ranks t.kind) (length es) 0
  table_short n es t formed key =
      let x = table_named p n es t in
      let keys = widths_short x.keys in
      let keys_few : length x.keys ≤ 640 = omega (arith, few_keys t (keyed t.kind t formed.key key), length-map t.key (width_of p)) in
      let actions = actions_short t.actions in
      let names = sum-map (λ a. length (name_of_action p a)) t.actions in
      let ranks = ranks_short t.kind es in
      let first = length-append (n ∷ spelled_name t.name) (spelled_table_kind t.kind ∷ four_bytes t.size) in
      let second = length-append (n ∷ spelled_name t.name ++ spelled_table_kind t.kind ∷ four_bytes t.size) (spelled_list16 (λ width. width ∷ []) x.keys) in
      let third = length-append (n ∷ spelled_name t.name ++ spelled_table_kind t.kind ∷ four_bytes t.size ++ spelled_list16 (λ width. width ∷ []) x.keys) (spelled_list8 spelled_action x.actions) in
      let fourth = length-append (n ∷ spelled_name t.name ++ spelled_table_kind t.kind ∷ four_bytes t.size ++ spelled_list16 (λ width. width ∷ []) x.keys ++ spelled_list8 spelled_action x.actions) (spelled_ranks t.kind x.ranks) in
      omega (arith, keys, keys_few, actions, names, ranks, name_short t.name, first, second, third, fourth, formed.few_actions)

  -- ---- the table of a node

  -- the bytes of the names that it tells
  abbrev bytes_at : What → ℕ
  bytes_at (Apply u) = weight_at (name_bytes p) p.tables u
  bytes_at (Gate f test) = 0

  -- its entries, where they have ranks
  abbrev ranks_at : List Entry → What → ℕ
  ranks_at es w = cond (terms_have_ranks (terms_at p w)) (length es) 0

  node_short : (n : ℕ) (es : List Entry) (w : What) (rest : List TableName)
      → length (flat_map spelled_table (cons_option (named_at p n es w) rest)) ≤ 960 + bytes_at w + 8 * ranks_at es w + length (flat_map spelled_table rest)
  node_short n es (Gate f test) rest = omega arith
  node_short n es (Apply u) rest = by (slice_get p.tables u) refl
    where
      by : (o : Option Table) → slice_get p.tables u ≡ o
          → length (flat_map spelled_table (cons_option (option_and_then (if_keyed p n es) o) rest))
          ≤ 960 + unwrap_or (option_map (name_bytes p) o) 0 + 8 * cond (terms_have_ranks (option_map (terms_of p) o)) (length es) 0 + length (flat_map spelled_table rest)
      by None at = omega arith
      by (Some t) at = keyed_by (has_key t.kind) refl
        where
          keyed_by : (b : Bool) → has_key t.kind ≡ b → length (flat_map spelled_table (cons_option (cond b (Some (table_named p n es t)) None) rest))
              ≤ 960 + name_bytes p t + 8 * cond (has_ranks t.kind) (length es) 0 + length (flat_map spelled_table rest)
          keyed_by true key =
              let own = table_short n es t (All-slice_get (IsTable p) p.tables u t program.tables at) key in
              omega (arith, own, length-append (spelled_table (table_named p n es t)) (flat_map spelled_table rest))
          keyed_by false key = omega arith

  -- ---- all tables

  abbrev node_bytes : Node → ℕ
  node_bytes node = bytes_at node.what

  abbrev node_ranks : List (List Entry) → ℕ × Node → ℕ
  node_ranks lists x = ranks_at (unwrap_or (slice_get lists x.0) []) x.1.what

  tables_short : (lists : List (List Entry)) (n : ℕ) (nodes : List Node)
      → length (flat_map spelled_table (named_from p lists n nodes)) ≤ 960 * length nodes + sum_by node_bytes nodes + 8 * sum_by (node_ranks lists) (enumerate_from n nodes)
  tables_short lists n [] = omega arith
  tables_short lists n (node ∷ nodes) =
      omega (
        arith,
        node_short n (unwrap_or (slice_get lists n) []) node.what (named_from p lists (n + 1) nodes),
        tables_short lists (n + 1) nodes,
        sum_by-cons node_bytes node nodes,
        sum_by-cons (node_ranks lists) (n, node) (enumerate_from (n + 1) nodes),
      )

  -- ---- each table is applied once, so its names are told once

  applied_weight : (w : What) → bytes_at w ≤ sum_by (λ u. cond (applies u w) (weight_at (name_bytes p) p.tables u) 0) (range_with_len 0 (length p.tables))
  applied_weight (Gate f test) = omega arith
  applied_weight (Apply k) = by (slice_get p.tables k) refl
    where
      by : (o : Option Table) → slice_get p.tables k ≡ o → weight_at (name_bytes p) p.tables k ≤ sum_by (only (weight_at (name_bytes p) p.tables) k) (range_with_len 0 (length p.tables))
      by None e = let none : weight_at (name_bytes p) p.tables k ≡ 0 = ap (λ o. unwrap_or (option_map (name_bytes p) o) 0) e in omega (arith, none)
      by (Some t) e = one_least (weight_at (name_bytes p) p.tables) k 0 (length p.tables) (omega arith) (omega (arith, slice_get_within p.tables k t e))

  -- a table's weight as often as nodes apply it
  abbrev counted : List Node → ℕ → ℕ
  counted nodes u = weight_at (name_bytes p) p.tables u * count_by (λ (node : Node). applies u node.what) nodes

  one_more : (node : Node) (nodes : List Node) (u : ℕ) → cond (applies u node.what) (weight_at (name_bytes p) p.tables u) 0 + counted nodes u ≤ counted (node ∷ nodes) u
  one_more node nodes u =
      subst (λ n. cond (applies u node.what) (weight_at (name_bytes p) p.tables u) 0 + counted nodes u ≤ weight_at (name_bytes p) p.tables u * n)
      (sym (sum_by-cons (λ (x : Node). cond (applies u x.what) 1 0) node nodes)) (by (applies u node.what))
    where
      by : (b : Bool) → cond b (weight_at (name_bytes p) p.tables u) 0 + counted nodes u ≤ weight_at (name_bytes p) p.tables u * (cond b 1 0 + count_by (λ (x : Node). applies u x.what) nodes)
      by true = omega arith
      by false = omega arith

  all_counted : (nodes : List Node) → sum_by node_bytes nodes ≤ sum_by (counted nodes) (range_with_len 0 (length p.tables))
  all_counted [] = omega arith
  all_counted (node ∷ nodes) =
      let numbers = range_with_len 0 (length p.tables) in
      let own : ℕ → ℕ = λ u. cond (applies u node.what) (weight_at (name_bytes p) p.tables u) 0 in
      let both = sum_by-both own (counted nodes) numbers in
      let each = sum_by-le-sum_by (λ u. own u + counted nodes u) (counted (node ∷ nodes)) numbers (one_more node nodes) in
      omega (arith, applied_weight node.what, both, each, all_counted nodes, sum_by-cons node_bytes node nodes)

  counted_once : (u : ℕ) → counted p.nodes u ≤ weight_at (name_bytes p) p.tables u
  counted_once u = by (slice_get p.tables u) refl
    where
      by : (o : Option Table) → slice_get p.tables u ≡ o → counted p.nodes u ≤ weight_at (name_bytes p) p.tables u
      by None e =
          let none : weight_at (name_bytes p) p.tables u ≡ 0 = ap (λ o. unwrap_or (option_map (name_bytes p) o) 0) e in
          subst (λ n. n * count_by (λ (node : Node). applies u node.what) p.nodes ≤ n) (sym none) (omega arith)
      by (Some t) e =
          subst (λ n. weight_at (name_bytes p) p.tables u * n ≤ weight_at (name_bytes p) p.tables u) (sym (program.applied u (slice_get_within p.tables u t e))) (omega arith)

  nodes_within : sum_by node_bytes p.nodes ≤ sum_by (name_bytes p) p.tables
  nodes_within =
      let once = sum_by-le-sum_by (counted p.nodes) (weight_at (name_bytes p) p.tables) (range_with_len 0 (length p.tables)) counted_once in
      omega (arith, all_counted p.nodes, once, by_number (name_bytes p) p.tables)

  -- ---- ranks stand where the entries do

  module _ (es : List Entry) where
    same_ranks : (n : ℕ) (node : Node) → slice_get p.nodes n ≡ Some node → node_ranks (by_node (length p.nodes) es) (n, node) ≡ ranked_entries p es n
    same_ranks n node at =
        let within = slice_get_within p.nodes n node at in
        let lists = by_node (length p.nodes) es in
        let there : n < length lists = omega (arith, within, length-by_node (length p.nodes) es) in
        let list : unwrap_or (slice_get lists n) [] ≡ entries_at es n =
        ap (λ o. unwrap_or o []) (slice_get-get_or lists n [] there) ∙ by_node_at (length p.nodes) n es [] within in
        ap (λ b. cond b (length (unwrap_or (slice_get lists n) [])) 0) (sym (ranked_at p n node at)) ∙ ap (λ (xs : List Entry). cond (is_ranked p n) (length xs) 0) list

    all_ranks : (n : ℕ) (nodes : List Node) → ((i : ℕ) (node : Node) → slice_get nodes i ≡ Some node → slice_get p.nodes (n + i) ≡ Some node)
        → sum_by (node_ranks (by_node (length p.nodes) es)) (enumerate_from n nodes) ≡ sum_by (ranked_entries p es) (range_with_len n (length nodes))
    all_ranks n [] at = refl
    all_ranks n (node ∷ nodes) at =
        let own = same_ranks n node (ap (slice_get p.nodes) (sym (add-zero n)) ∙ at 0 node refl) in
        let rest = all_ranks (n + 1) nodes (λ i x there. ap (slice_get p.nodes) (omega arith) ∙ at (suc i) x there) in
        omega (
          arith,
          own,
          rest,
          sum_by-cons (node_ranks (by_node (length p.nodes) es)) (n, node) (enumerate_from (n + 1) nodes),
          sum_by-cons (ranked_entries p es) n (range_with_len (n + 1) (length nodes)),
        )

    pub names_short : length (spelled_names (Some (names_of p (by_node (length p.nodes) es)))) ≤ 122881 + sum_by (name_bytes p) p.tables + 8 * sum_by (rank_weight p) es
    names_short =
        let lists = by_node (length p.nodes) es in
        let ranks = all_ranks 0 p.nodes (λ i node at. ap (slice_get p.nodes) (zero-add i) ∙ at) in
        omega (arith, tables_short lists 0 p.nodes, nodes_within, ranks, ranked_few p es (length p.nodes), program.counts.nodes)
