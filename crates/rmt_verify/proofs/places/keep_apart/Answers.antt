use Rattle.std.proofs.Common.{List, IsTrue, ◌≡◌, ◌↔◌, subst}
use Rattle.std.specs.Prelude.{All, AllPairs, map}
use Rattle.std.specs.List.{flat_map}
use Rattle.rmt_ast.specs.WellFormed.{AreDistinct}
use Rattle.rmt_ast.specs.declared.program.Action.{Action}
use Rattle.rmt_ast.specs.declared.program.Field.{Field}
use Rattle.rmt_bits.specs.declared.lane.Lane.{Lane}
use Rattle.rmt_phv.specs.Packing.{pieces}
use Rattle.rmt_phv.specs.Places.{AreApart, LiesInWord, WritesApart, lengths_of}
use Rattle.rmt_verify.proofs.places.keep_apart.Goals as goal

abbrev InDifferentWords : List (List Lane) → Type 0
InDifferentWords places = All (λ (ls : List Lane). AreDistinct (map (λ (l : Lane). l.word) ls)) places

pub returns-then-not-all_pass-2 : goal.returns-then-not-all_pass-2
returns-then-not-all_pass-2 c =
    let differ : IsTrue c.all_pass-2.result ↔ InDifferentWords c.args.places.now =
    subst (λ (p : List (List Lane)). IsTrue c.all_pass-2.result ↔ InDifferentWords p) c.as_slice-fields.ensures c.all_pass-2.ensures in
    (λ no. absurd cc, λ keep. absurd (let yes = differ.1 keep.one_of_field in cc))

pub returns : goal.returns
returns c =
    let places = c.args.places.now in
    let same = c.as_slice-fields.ensures in
    let program = c.args.program.now in
    let cut : IsTrue c.are_cut.result ↔ (lengths_of places ≡ map (λ (f : Field). pieces f.width) program.fields) =
    subst (λ (p : List (List Lane)). IsTrue c.are_cut.result ↔ (lengths_of p ≡ map (λ (f : Field). pieces f.width) program.fields)) same
    (subst (λ (fs : List Field). IsTrue c.are_cut.result ↔ (lengths_of c.as_slice-fields.result.now ≡ map (λ (f : Field). pieces f.width) fs)) c.as_slice.ensures c.are_cut.ensures) in
    let within : IsTrue c.all_pass.result ↔ All (All LiesInWord) places = subst (λ (p : List (List Lane)). IsTrue c.all_pass.result ↔ All (All LiesInWord) p) same c.all_pass.ensures in
    let differ : IsTrue c.all_pass-2.result ↔ InDifferentWords places = subst (λ (p : List (List Lane)). IsTrue c.all_pass-2.result ↔ InDifferentWords p) same c.all_pass-2.ensures in
    let apart : IsTrue c.in_ok-all_apart.field-0 ↔ AllPairs AreApart (flat_map (λ (ls : List Lane). ls) places) =
    subst (λ (p : List (List Lane)). IsTrue c.in_ok-all_apart.field-0 ↔ AllPairs AreApart (flat_map (λ (ls : List Lane). ls) p)) same c.in_ok-all_apart.ensures in
    let written : IsTrue c.all_pass-3.result ↔ All (WritesApart places) program.actions =
    subst (λ (xs : List Action). IsTrue c.all_pass-3.result ↔ All (WritesApart places) xs) c.as_slice-2.ensures c.all_pass-3.ensures in (
      λ yes. record {
        cut = cut.0 cc;
        within = within.0 cc;
        no_overlap = apart.0 cc;
        one_of_field = differ.0 cc;
        written_apart = written.0 yes;
      },
      λ keep. written.1 keep.written_apart,
    )
