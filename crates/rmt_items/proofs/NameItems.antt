-- The names of an image: each is read as it is spelled.
use Rattle.std.proofs.Common.{◌≡◌, ℕ, zero, suc, ◌^◌, ◌<◌, Bool, true, ◌&&◌, ltb, List, [], ◌∷◌, ◌++◌, length, refl, sym, ap, ◌∙◌, append_assoc, arith}
use Rattle.std.specs.List.{flat_map, list_all}
use Rattle.std.proofs.lemmas.Bool.{ltb-true, leb-true}
use Rattle.rmt_bits.proofs.TestLaws.{split2}
use Rattle.rmt_ast.specs.Naming.{has_key}
use Rattle.rmt_ast.specs.declared.program.Kind.{Kind}
use Rattle.rmt_ast.specs.declared.program.Kind.TheVariants as kind
use Rattle.rmt_ast.specs.declared.names.Names.{Names}
use Rattle.rmt_ast.specs.declared.names.TableName.{TableName}
use Rattle.rmt_ast.specs.declared.names.ActionName.{ActionName}
use Rattle.rmt_ast.specs.declared.names.RankOf.{RankOf}
use Rattle.rmt_config.specs.Spelling.{two_bytes, four_bytes, spelled_list8, spelled_list16}
use Rattle.rmt_config.specs.ImageSpelling.{spelled_name, spelled_action, spelled_rank, spelled_table_kind, spelled_ranks, spelled_table}
use Rattle.rmt_items.specs.declared.fault.ReadFault.{ReadFault}
use Rattle.rmt_items.specs.Readers.{give, at_most}
use Rattle.rmt_items.specs.ReadingNames.{name_at, action_of_parts, action_at, rank_of_parts, rank_at, table_kind_of, table_kind_at, ranks_at, table_of_parts, TableBody, table_body_at, table_at, names_of_parts, names_at}
use Rattle.rmt_items.proofs.Codec.{Codec, codec_for, codec_behind, codec_made, codec_give, AllAlong, codec_items, codec_listed, codec_list, byte_codec, two_codec, four_codec, fours_codec, bytes_codec, alone}
use Rattle.rmt_items.proofs.Items.{codec_byte}

-- ---- the parts of a table

pub name_codec : Codec name_at spelled_name (λ name. length name < 2 ^ 32) (λ _. Unit {0})
unfolding name_at
name_codec = codec_for (codec_listed four_codec bytes_codec) (λ name. length name < 2 ^ 32) (λ name lt. (lt, tt))

abbrev pub is_short : ActionName → Bool
is_short a = ltb (length a.name) (2 ^ 32)

-- bytes behind their count, as a list of numbers of one byte
widths_8 : (ws : List ℕ) → (length ws ∷ []) ++ ws ≡ spelled_list8 (λ w. w ∷ []) ws
widths_8 ws = ap (λ (text : List ℕ). length ws ∷ text) (sym (alone ws))

widths_16 : (ws : List ℕ) → two_bytes (length ws) ++ ws ≡ spelled_list16 (λ w. w ∷ []) ws
widths_16 ws = ap (λ (text : List ℕ). two_bytes (length ws) ++ text) (sym (alone ws))

action_text : (a : List ℕ × List ℕ) → spelled_name a.0 ++ ((length a.1 ∷ []) ++ a.1) ≡ spelled_action (action_of_parts a)
action_text a = ap (λ (text : List ℕ). spelled_name a.0 ++ text) (widths_8 a.1)

pub action_codec : Codec action_at spelled_action (λ a. is_short a ≡ true) (λ _. Unit {0})
unfolding action_at
action_codec =
    codec_made action_of_parts (codec_behind name_codec (λ _. codec_listed byte_codec bytes_codec)) spelled_action (λ a. is_short a ≡ true)
    (λ a r. action_text a) (λ a short. ((a.name, a.params), refl, action_text (a.name, a.params), (ltb-true (length a.name) (2 ^ 32) short, (tt, tt))))

abbrev pub rank_fits : RankOf → Bool
rank_fits r = ltb r.number (2 ^ 32) && ltb r.rank (2 ^ 32)

pub rank_codec : Codec rank_at spelled_rank (λ r. rank_fits r ≡ true) (λ _. Unit {0})
unfolding rank_at
rank_codec =
    codec_made rank_of_parts fours_codec spelled_rank (λ r. rank_fits r ≡ true) (λ a r. refl)
    (λ r fits. let p = split2 fits in ((r.number, r.rank), refl, refl, (ltb-true r.number (2 ^ 32) p.0, ltb-true r.rank (2 ^ 32) p.1)))

kind_same : (a : ℕ) → at_most 2 a ≡ true → a ∷ [] ≡ spelled_table_kind (table_kind_of a) ∷ []
kind_same zero p = refl
kind_same (suc zero) p = refl
kind_same (suc (suc zero)) p = refl
kind_same (suc (suc (suc a))) p = absurd (omega (arith, leb-true (suc (suc (suc a))) 2 p))

kind_back : (k : Kind) → has_key k ≡ true → (a : ℕ) × (table_kind_of a ≡ k) × (a ∷ [] ≡ spelled_table_kind k ∷ []) × (at_most 2 a ≡ true)
kind_back kind.Keyless e = absurd cc
kind_back kind.Exact e = (0, refl, refl, refl)
kind_back kind.Prefix e = (1, refl, refl, refl)
kind_back kind.Ternary e = (2, refl, refl, refl)

pub kind_codec : Codec table_kind_at (λ k. spelled_table_kind k ∷ []) (λ k. has_key k ≡ true) (λ _. Unit {0})
unfolding table_kind_at
kind_codec = codec_made table_kind_of (codec_byte (at_most 2)) (λ k. spelled_table_kind k ∷ []) (λ k. has_key k ≡ true) (λ a r. kind_same a r) kind_back

-- ranks of a table of this kind, by which they are read
abbrev pub RanksKeep : Kind → List RankOf → Type 0
RanksKeep kind.Keyless ranks = ranks ≡ []
RanksKeep kind.Exact ranks = ranks ≡ []
RanksKeep kind.Prefix ranks = ranks ≡ []
RanksKeep kind.Ternary ranks = (length ranks < 2 ^ 32) × (list_all rank_fits ranks ≡ true)

abbrev no_ranks : List RankOf
no_ranks = []

no_ranks_codec : Codec {F = ReadFault} (give no_ranks) (λ _. []) (λ ranks. ranks ≡ []) (λ _. Unit {0})
no_ranks_codec = codec_for (codec_give no_ranks (λ _. []) refl) (λ ranks. ranks ≡ []) (λ ranks none. none)

ranks_codec : (k : Kind) → Codec (ranks_at k) (spelled_ranks k) (RanksKeep k) (λ _. Unit {0})
ranks_codec kind.Keyless = no_ranks_codec
ranks_codec kind.Exact = no_ranks_codec
ranks_codec kind.Prefix = no_ranks_codec
ranks_codec kind.Ternary = codec_for (codec_listed four_codec (codec_list rank_fits rank_codec)) (RanksKeep kind.Ternary) (λ ranks keep. keep)

-- ---- tables

abbrev TableParts : Type 0
TableParts = (ℕ × List ℕ) × (Kind × (ℕ × (List ℕ × (List ActionName × List RankOf))))

abbrev parts_text : TableParts → List ℕ
parts_text x =
    ((x.0.0 ∷ []) ++ spelled_name x.0.1)
    ++ ((spelled_table_kind x.1.0 ∷ [])
    ++ (four_bytes x.1.1.0 ++ ((two_bytes (length x.1.1.1.0) ++ x.1.1.1.0) ++ (((length x.1.1.1.1.0 ∷ []) ++ flat_map spelled_action x.1.1.1.1.0) ++ spelled_ranks x.1.0 x.1.1.1.1.1))))

table_text : (x : TableParts) → parts_text x ≡ spelled_table (table_of_parts x)
table_text x =
    let front : List ℕ = x.0.0 ∷ spelled_name x.0.1 in
    let kind_and_size : List ℕ = spelled_table_kind x.1.0 ∷ four_bytes x.1.1.0 in
    let actions : List ℕ = spelled_list8 spelled_action x.1.1.1.1.0 in
    let ranks : List ℕ = spelled_ranks x.1.0 x.1.1.1.1.1 in
    ap (λ (keys : List ℕ). front ++ (kind_and_size ++ (keys ++ (actions ++ ranks)))) (widths_16 x.1.1.1.0)
    ∙ (let keys : List ℕ = spelled_list16 (λ w. w ∷ []) x.1.1.1.0 in
    sym (append_assoc front kind_and_size (keys ++ (actions ++ ranks)))
    ∙ sym (append_assoc (front ++ kind_and_size) keys (actions ++ ranks))
    ∙ sym (append_assoc (front ++ kind_and_size ++ keys) actions ranks))

abbrev table_parts : TableName → TableParts
table_parts t = ((t.node, t.name), (t.kind, (t.size, (t.keys, (t.actions, t.ranks)))))

-- a table that is read from its spelling
pub record TableKeeps (t : TableName) : Type 0 where
  pub name : length t.name < 2 ^ 32
  pub keyed : has_key t.kind ≡ true
  pub size : t.size < 2 ^ 32
  pub keys : length t.keys < 2 ^ 16
  pub actions : list_all is_short t.actions ≡ true
  pub ranks : RanksKeep t.kind t.ranks

abbrev body_text : TableBody → List ℕ
body_text x =
    (spelled_table_kind x.0 ∷ [])
    ++ (four_bytes x.1.0 ++ ((two_bytes (length x.1.1.0) ++ x.1.1.0) ++ (((length x.1.1.1.0 ∷ []) ++ flat_map spelled_action x.1.1.1.0) ++ spelled_ranks x.0 x.1.1.1.1)))

abbrev BodyKeeps : TableBody → Type 0
BodyKeeps x =
    (has_key x.0 ≡ true)
    × ((x.1.0 < 2 ^ 32) × (((length x.1.1.0 < 2 ^ 16) × Unit {0}) × ((Unit {0} × (list_all is_short x.1.1.1.0 ≡ true)) × RanksKeep x.0 x.1.1.1.1)))

body_codec : Codec table_body_at body_text BodyKeeps (λ _. Unit {0})
unfolding table_body_at
body_codec =
    codec_for
    (codec_behind kind_codec
    (λ k. codec_behind four_codec (λ _. codec_behind (codec_listed two_codec bytes_codec) (λ _. codec_behind (codec_listed byte_codec (codec_list is_short action_codec)) (λ _. ranks_codec k)))))
    BodyKeeps (λ x keeps. keeps)

pub table_codec : Codec table_at spelled_table TableKeeps (λ _. Unit {0})
unfolding table_at
table_codec =
    codec_made table_of_parts (codec_behind (codec_behind byte_codec (λ _. name_codec)) (λ _. body_codec))
    spelled_table TableKeeps (λ x r. table_text x)
    (λ t keeps. (table_parts t, refl, table_text (table_parts t), ((tt, keeps.name), (keeps.keyed, (keeps.size, ((keeps.keys, tt), ((tt, keeps.actions), keeps.ranks)))))))

-- ---- names

-- names whose tables are read from their spellings
abbrev pub NamesKeep : Names → Type 0
NamesKeep names = AllAlong (λ _ t. TableKeeps t) (λ _. 0) 0 names.tables

pub names_codec : Codec names_at (λ names. spelled_list8 spelled_table names.tables) NamesKeep (λ _. Unit {0})
unfolding names_at
names_codec =
    codec_made names_of_parts (codec_listed byte_codec (codec_items (λ (_ : TableName). 0) 0 (λ _. table_codec)))
    (λ names. spelled_list8 spelled_table names.tables) NamesKeep (λ a r. refl) (λ names keep. (names.tables, refl, refl, (tt, keep)))
