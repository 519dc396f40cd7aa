-- The plain parser of a program that isn't refused has few states, entries and extracts.
use Rattle.std.proofs.Common.{◌≡◌, ℕ, ◌+◌, ◌≤◌, List, [], ◌∷◌, None, length, map, arith}
use Rattle.std.specs.Prelude.{All}
use Rattle.std.proofs.lemmas.List.{length-map}
use Rattle.std.proofs.lemmas.List.Elements.{All-append, All-cons, All-head, All-map, All-nil, All-tail}
use Rattle.rmt_bits.specs.declared.lane.Lane.{Lane}
use Rattle.rmt_bits.proofs.AllLaws.{All-from_items}
use Rattle.rmt_build.specs.Types.{Program, Header, ParserState, ParserEntry}
use Rattle.rmt_ast.specs.WellFormed.{IsHeader, IsProgram}
use Rattle.rmt_phv.specs.Places.{KeepsApart}
use Rattle.rmt_ptcam.specs.Needs.{refusal}
use Rattle.rmt_ptcam.specs.Plain.{entries_from, entries_of, entry_of_case, entry_to, extracts_of, plain, state_of}
use Rattle.rmt_ptcam.proofs.NeedLaws.{fits_in}
use Rattle.rmt_ptcam.proofs.PlainLaws.{length-entries_from}
use Rattle.rmt_build.proofs.FormLanes.{IsNarrow, is_narrow}
use Rattle.rmt_build.proofs.FormLimits.{FewParts}
use Rattle.rmt_ptcam.proofs.PlainForm.{extracts_count}

-- an entry that needs at most 128 bytes and has at most 64 extracts
abbrev pub IsSmall : ParserEntry → Type 0
IsSmall e = (e.need ≤ 128) × (length e.extracts ≤ 64)

module _ (p : Program) (places : List (List Lane)) (keeps : KeepsApart p places) where
  pub few_extracts : (n : ℕ) (h : Header) → IsHeader p n h → IsNarrow p h → length (extracts_of places h) ≤ 64
  few_extracts n h is few =
      omega (arith, extracts_count p places n h keeps is, few.1)

  of_header : (n : ℕ) (h : Header) → IsHeader p n h → IsNarrow p h → (h.bytes ≤ 128) × (length (extracts_of places h) ≤ 64)
  of_header n h is few = let most = is.is_not_long in (omega (arith, most), few_extracts n h is few)

  entries_small : (n : ℕ) (hs : List Header) → All (λ h. (m : ℕ) × IsHeader p m h × IsNarrow p h) hs → All IsSmall (entries_from p places n hs)
  entries_small n [] all = All-nil IsSmall
  entries_small n (h ∷ hs) all =
      let own = All-head (λ x. (m : ℕ) × IsHeader p m x × IsNarrow p x) h hs all in
      All-append IsSmall (entries_of p places n h) (entries_from p places (n + 1) hs)
      (All-append IsSmall (map (entry_of_case p places n h) h.cases) (entry_to places n h 0 0 h.other ∷ [])
      (All-map IsSmall (entry_of_case p places n h) h.cases (λ k d lt. of_header own.0 h own.1 own.2))
      (All-cons IsSmall (entry_to places n h 0 0 h.other) [] (of_header own.0 h own.1 own.2) (All-nil IsSmall)))
      (entries_small (n + 1) hs (All-tail (λ x. (m : ℕ) × IsHeader p m x × IsNarrow p x) h hs all))

  pub few_parts : IsProgram p → refusal p ≡ None → FewParts (plain p places)
  few_parts program fits =
      let headers = All-from_items (λ h. (m : ℕ) × IsHeader p m h × IsNarrow p h) p.headers (λ n h at. (n, program.headers n h at, is_narrow p n h fits at)) in
      let small = entries_small 0 p.headers headers in
      record {
        entries = let all = length-entries_from p places 0 p.headers in let most = fits_in p fits in omega (arith, all, most);
        states = omega (arith, length-map p.headers (state_of p), program.counts.headers);
        lookups = All-map (λ (s : ParserState). length s.lookups ≤ 4) (state_of p) p.headers (λ k d lt. (headers k d lt).2.0);
        need = λ k d lt. (small k d lt).0;
        extracts = λ k d lt. (small k d lt).1;
      }
