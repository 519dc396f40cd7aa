-- An image of a configuration that carries the program of a text with the entries of a text, and has their names, is short.
use Rattle.std.proofs.Common.{◌≡◌, ℕ, ◌+◌, ◌<◌, ◌≤◌, List, [], Some, Result, Ok, Err, length, refl, sym, ap, subst, ◌∙◌, arith}
use Rattle.std.specs.Prelude.{All}
use Rattle.std.specs.List.{range_with_len}
use Rattle.std.proofs.lemmas.List.Elements.{All-filter, All-map, All-weaker}
use Rattle.std.proofs.lemmas.List.Sums.{sum-map}
use Rattle.rmt_bits.proofs.AllLaws.{All-flat_map}
use Rattle.rmt_core.specs.Types.{Program, Config}
use Rattle.rmt_ast.specs.declared.entry.Entry.{Entry}
use Rattle.rmt_ast.specs.Answers.{entry_numbers as entry_numbers_of}
use Rattle.rmt_ast.specs.NameRules.{CanBeNamed}
use Rattle.rmt_ast.specs.Naming.{names_of}
use Rattle.rmt_ast.specs.WellFormed.{IsProgram}
use Rattle.rmt_check.specs.NamedTexts.{HasNameForms, IsShortFor, name_bytes}
use Rattle.rmt_entries.specs.declared.fault.EntryFault.{EntryFault}
use Rattle.rmt_entries.specs.Entries.{by_node, entries_at, entries_of, lists_or_fault, reading}
use Rattle.rmt_bits.specs.Lines.{numbered_lines}
use Rattle.rmt_entries.specs.Tables.{applied_tables}
use Rattle.rmt_entries.proofs.LawLists.{entries_law}
use Rattle.rmt_config.specs.CellForm.{entry_numbers}
use Rattle.rmt_config.specs.Form.{Formed, visible_with}
use Rattle.rmt_config.specs.Limits.{IsWithinLimits}
use Rattle.rmt_config.specs.ImageSpelling.{spelled_image, spelled_names}
use Rattle.rmt_refine.specs.declared.map.Map.{Map}
use Rattle.rmt_refine.specs.Carries.{Carries}
use Rattle.rmt_core.specs.Making.{AreOfTexts}
use Rattle.rmt_image.proofs.size.Bytes.{bytes_few}
use Rattle.rmt_core.proofs.size.Distinct.{new_few}
use Rattle.rmt_core.proofs.size.Lines.{AreFew, few_entries}
use Rattle.rmt_core.proofs.size.Names.{names_short}
use Rattle.rmt_core.proofs.size.Numbers.{numbers_below}
use Rattle.rmt_bits.proofs.OptionLaws.{same_Ok}

-- the entries that a text says are those of the lists, and few; their numbers are below how many they are
pub record Numbered (p : Program) (lists : List (List Entry)) (text : List ℕ) : Type 0 where
  pub entries : List Entry
  pub few : AreFew p entries (length text + 1)
  pub lists_are : by_node (length p.nodes) entries ≡ lists
  pub below : All (λ es. All (λ (e : Entry). e.number < length entries) es) lists

pub numbered : (p : Program) (text : List ℕ) (lists : List (List Entry)) → IsProgram p → entries_of p text ≡ Ok lists → Numbered p lists text
numbered p text lists program said = by (reading (applied_tables p) [] (numbered_lines 1 text)) refl said
  where
    by : (o : Result (List Entry) EntryFault) → reading (applied_tables p) [] (numbered_lines 1 text) ≡ o → lists_or_fault (length p.nodes) o ≡ Ok lists → Numbered p lists text
    by (Err fault) s i = absurd cc
    by (Ok es) s i =
        let few = few_entries p text es program s in
        let all : All (λ xs. All (λ (e : Entry). e.number < length es) xs) (by_node (length p.nodes) es) =
        All-map (λ xs. All (λ (e : Entry). e.number < length es) xs) (entries_at es) (range_with_len 0 (length p.nodes))
        (λ k d lt. All-filter _ (λ (e : Entry). e.number < length es) es few.numbers) in
        let same = same_Ok (by_node (length p.nodes) es) lists i in
        record {
          entries = es;
          few = few;
          lists_are = same;
          below = subst (λ ls. All (λ xs. All (λ (e : Entry). e.number < length es) xs) ls) same all;
        }

-- an image can name a program of a text with the entries of a text
pub can_be_named : (p : Program) (lists : List (List Entry)) → IsProgram p → AreOfTexts p lists → HasNameForms p → CanBeNamed p lists
can_be_named p lists program said names =
    let entries = numbered p said.entry_text lists program said.says in
    let top = length entries.entries in
    let few : top < 4293918720 = omega (arith, entries.few.few, said.has_short_entries) in
    record {
      tables = names.tables;
      actions = names.actions;
      numbers =
          All-flat_map (λ n. n < 4293918720) entry_numbers_of lists
          (All-weaker (λ es. All (λ (e : Entry). e.number < top) es) (λ es. All (λ n. n < 4293918720) (entry_numbers_of es))
          (λ es low. All-map (λ n. n < 4293918720) (λ (e : Entry). e.number) es
          (All-weaker (λ (e : Entry). e.number < top) (λ (e : Entry). e.number < 4293918720) (λ e lt. omega (arith, lt, few)) es low)) lists entries.below);
    }

pub image_is_short : (p : Program) (lists : List (List Entry)) (m : Map) (c : Config)
    → IsProgram p → (said : AreOfTexts p lists) → IsShortFor said.text p → Carries p lists m c → Formed c → IsWithinLimits c
    → c.names ≡ Some (names_of p lists) → length (spelled_image c) ≤ 268435456
image_is_short p lists m c program said brief carries formed within named =
    let entries = numbered p said.entry_text lists program said.says in
    let es = entries.entries in
    let below = numbers_below p lists m c (visible_with c.names) (entries_law p said.entry_text lists program said.says) carries formed.whole.memory (length es) entries.below in
    let numbers = new_few (length es) (entry_numbers c) formed.whole.numbers below in
    let are : spelled_names c.names ≡ spelled_names (Some (names_of p (by_node (length p.nodes) es))) =
    ap spelled_names named ∙ ap (λ ls. spelled_names (Some (names_of p ls))) (sym entries.lists_are) in
    let names = names_short p program es in
    let texts = sum-map (name_bytes p) p.tables in
    omega (arith, bytes_few c formed within, numbers, ap length are, names, texts, brief, said.is_short, entries.few.few, said.has_short_entries)
