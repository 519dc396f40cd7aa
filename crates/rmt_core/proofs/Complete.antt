-- Where the files are as they must be, each command gives Done.
use Rattle.std.proofs.Common.{◌≡◌, ℕ, false, ltb, List, length, Option, Some, None, inl, inr, sym, ap, refl, ◌∙◌, subst}
use Rattle.std.proofs.lemmas.Bool.{le-ltb}
use Rattle.rmt_runs.proofs.ReaderLaws.{within_short}
use Rattle.rmt_core.specs.Types.{Program, Config}
use Rattle.rmt_ast.specs.declared.entry.Entry.{Entry}
use Rattle.rmt_bounds.specs.declared.bound.Bound.{Bound}
use Rattle.rmt_build.specs.declared.fault.NoFit.{NoFit}
use Rattle.rmt_build.specs.Loads.{IsFull as IsFullTable}
use Rattle.rmt_refine.specs.declared.map.Map.{Map}
use Rattle.rmt_switch.specs.Switch.{switched}
use Rattle.rmt_core.specs.declared.placer.Placer.{Placer}
use Rattle.rmt_core.specs.declared.placer.Placer.TheVariants.{ByRule, ByTries}
use Rattle.rmt_drive.specs.declared.status.Status.TheVariants.{Done}
use Rattle.rmt_drive.specs.declared.watch.Watch.{Watch}
use Rattle.rmt_drive.specs.declared.watch.Watch.TheVariants.{Answers, Vectors}
use Rattle.rmt_drive.specs.ChipEvents.{Comes, lists_in, names_in}
use Rattle.rmt_drive.specs.ChipReading.{read_by}
use Rattle.rmt_drive.specs.ChipRuns.{EndsFull, RunsChip, RunsSo, bad_within}
use Rattle.rmt_core.specs.Commands.{Compile, CompileMap, Improve, Sim, Probe, Plain, Report, Sample, Switch, Verify}
use Rattle.rmt_core.specs.Compiling.{Builds, Compiles, Finish, Fitted, GivesImage, IsFull, Loaded, written}
use Rattle.rmt_drive.specs.Files.{Files, capture_limit, entries_limit, groups_limit, image_limit, packets_limit, program_limit}
use Rattle.rmt_drive.specs.Given.{Given, Opens, Reads, told}
use Rattle.rmt_core.specs.Headline.{AreGoodGroups, CanBeMade, Fits, IsComplete, IsGoodCapture, IsGoodChipRun, IsImage, IsReady}
use Rattle.rmt_drive.specs.EventText.{EventReading, with_changes}
use Rattle.rmt_core.specs.MapFiles.{Wanted, image_alone, with_map}
use Rattle.rmt_core.specs.PlainText.{GivesPlain, RunsPlain}
use Rattle.rmt_drive.specs.PlainText.{plain_text}
use Rattle.rmt_core.specs.Reporting.{report_line}
use Rattle.rmt_drive.specs.Runs.{run_status}
use Rattle.rmt_core.specs.Sampling.{GivesSample, sample_line}
use Rattle.rmt_core.specs.Simulating.{GivesRun, Spelled}
use Rattle.rmt_core.specs.Switching.{GivesSwitch, HasCapture, HasGroups, OfCapture, OfGroups, Switches, switch_given}
use Rattle.rmt_core.specs.Texts.{Understands}
use Rattle.rmt_core.specs.Verifying.{GivesVerify}
use Rattle.rmt_core.proofs.GivenOnce.{OneMap, OneMeaning}
use Rattle.rmt_core.proofs.Verified.{verify_checks}
use Rattle.rmt_core.proofs.PlacerLaws.{same_placed}
use Rattle.rmt_core.proofs.GivenDone.{opened_there, read_within, run_done, sample_built, spelled_is, understood}
use Rattle.rmt_drive.proofs.ReadOnce.{told_is}

module _
    (placer : Placer) (files : Files) (finish : Finish) (is : (image : List ℕ) (m : Map) (c : Config) (b : Bound) → (finish image m c b).status ≡ Done)
    (p : Program) (lists : List (List Entry)) (g : Given) (fits : Fits placer p lists)
  where
    -- a refusal of loading says of each seed which table is full
    never_refused : (line : List ℕ) → IsFull placer p lists line → ⊥
    never_refused line y =
        let same = same_placed placer p fits.placed.places y.placed.places fits.parts y.parts fits.placed.packed y.placed.packed fits.placed.placed y.placed.placed in
        let full = y.full.each fits.seed fits.few in
        fits.never_full full.0 full.1 full.2 (subst (λ l. IsFullTable p lists l fits.seed full.0 full.1 full.2) (sym same) full.3)

    loaded_ready : Loaded placer files finish p lists g → g.status ≡ Done
    loaded_ready (inl x) = ap (λ (k : Given). k.status) x.5 ∙ is x.0 x.1 x.2 x.3
    loaded_ready (inr x) = absurd (never_refused x.0 x.1)

    builds_ready : Builds placer files finish p lists g → g.status ≡ Done
    builds_ready h =
        let fitted : Loaded placer files finish p lists g = subst (λ (o : Option NoFit). Fitted placer files finish p lists g o) fits.no_refusal h in
        loaded_ready fitted

image_ready : OneMeaning → (placer : Placer) (files : Files) (program entries : List ℕ) (wanted : Wanted) (g : Given) → CanBeMade placer files program entries
    → GivesImage placer files program entries wanted g → g.status ≡ Done
image_ready one placer files program entries wanted g ready h =
    let both = ready.2 in
    let read = read_within files program program_limit (λ text. Reads files entries entries_limit (λ entry_text. Understands files text entry_text (Compiles placer files wanted))) g (both.text, both.has_text) h in
    let told = read_within files entries entries_limit (λ entry_text. Understands files both.text entry_text (Compiles placer files wanted)) g (both.entry_text, both.has_entries) read in
    builds_ready placer files (written files wanted ready.0) (λ _ _ _ _. refl) ready.0 ready.1 g ready.3 (understood one files both.text both.entry_text (Compiles placer files wanted) g ready.0 ready.1 both.means both.says told)

sample_ready : OneMeaning → (files : Files) (number : ℕ) (g : Given) → IsReady files (Sample number) → GivesSample files number g → g.status ≡ Done
sample_ready one files number g ready h =
    let p = ready.0 in
    let lists = ready.1 in
    builds_ready ByRule files (λ image m c b. told files Done (sample_line number p lists c)) (λ _ _ _ _. refl) p lists g ready.3 (sample_built one files number g p lists ready.2 h)

-- what a run gives over a text that is short, has no bad line for it, and in which each commit finds room
run_good : (w : Watch) (files : Files) (image packets : List ℕ) (i : IsGoodChipRun files image packets) (g : Given) → RunsChip w files i.is_image.config packets_limit i.text g → g.status ≡ Done
run_good w files image packets i g h = by h.0 h.3
  where
    c : Config
    c = i.is_image.config

    few : ltb packets_limit (length i.text) ≡ false
    few = le-ltb packets_limit (length i.text) i.has_text.is_short

    none : bad_within c None packets_limit i.text ≡ None
    none = ap (λ (ls : List (ℕ × List ℕ)). (read_by c None ls).bad) (within_short packets_limit i.text i.has_text.is_short) ∙ i.is_good

    by : (full : Option ℕ) → RunsSo w files c packets_limit i.text full h.1 h.2 g → g.status ≡ Done
    by None so = ap (λ (k : Given). k.status) so.given_is ∙ ap (λ b. run_status b (bad_within c None packets_limit i.text)) few ∙ ap (run_status false) none
    by (Some k) so =
        let same = told_is c packets_limit i.text (Some k) in
        absurd (i.has_room k h.1 h.2 (subst (λ (x : EventReading). Comes c (names_in c) (lists_in c) x.events h.1 h.2) same so.comes) (subst (λ (x : EventReading). EndsFull c h.2 x (Some k)) same so.ends))

run_ready : (w : Watch) (files : Files) (image packets : List ℕ) (g : Given) → IsGoodChipRun files image packets → GivesRun w files image packets g → g.status ≡ Done
run_ready w files image packets g r h =
    let i = r.is_image in
    let read = read_within files image image_limit (λ bytes. Opens files packets (λ text. Spelled files bytes (λ c. RunsChip w files c packets_limit text))) g (i.bytes, i.has_bytes) h in
    let opened = opened_there files packets r.text (λ text. Spelled files i.bytes (λ c. RunsChip w files c packets_limit text)) g r.has_text.is_there read in
    run_good w files image packets r g (spelled_is files i.bytes (λ c. RunsChip w files c packets_limit r.text) g i.config i.spells opened)

plain_ready : OneMeaning → (files : Files) (program entries packets : List ℕ) (g : Given) → IsReady files (Plain program entries packets) → GivesPlain files program entries packets g → g.status ≡ Done
plain_ready one files program entries packets g ready h =
    let both = ready.2 in
    let t = ready.3 in
    let read = read_within files program program_limit
    (λ text. Reads files entries entries_limit
    (λ entry_text. Opens files packets (λ packet_text. Understands files text entry_text (RunsPlain files packet_text)))) g (both.text, both.has_text) h in
    let second = read_within files entries entries_limit
    (λ entry_text. Opens files packets (λ packet_text. Understands files both.text entry_text (RunsPlain files packet_text))) g (both.entry_text, both.has_entries) read in
    let opened = opened_there files packets t.text (λ packet_text. Understands files both.text both.entry_text (RunsPlain files packet_text)) g t.has_text.is_there second in
    let run = understood one files both.text both.entry_text (RunsPlain files t.text) g ready.0 ready.1 both.means both.says opened in
    ap (λ (k : Given). k.status) (run_done (with_changes ready.0 ready.1) files (plain_text ready.0 ready.1) packets_limit t.text g t.has_text.is_short t.is_good run)

switch_ready : (files : Files) (image groups capture out : List ℕ) (every : ℕ) (g : Given) → IsImage files image → AreGoodGroups files groups → IsGoodCapture files capture
    → GivesSwitch files image groups capture out every g → g.status ≡ Done
switch_ready files image groups capture out every g i t k h =
    let read = read_within files image image_limit (λ bytes. Reads files groups groups_limit (λ text. Reads files capture capture_limit (λ file. Switches files out every bytes text file))) g (i.bytes, i.has_bytes) h in
    let grouped = read_within files groups groups_limit (λ text. Reads files capture capture_limit (λ file. Switches files out every i.bytes text file)) g (t.text, t.has_text) read in
    let captured = read_within files capture capture_limit (λ file. Switches files out every i.bytes t.text file) g (k.file, k.has_file) grouped in
    let next = λ (ports : List (List ℕ)). HasCapture files k.file (λ said x. x ≡ switch_given files out (switched i.config ports every k.file said)) in
    let spelled : HasGroups files t.text next g = spelled_is files i.bytes (λ c. HasGroups files t.text (λ ports. HasCapture files k.file (λ said x. x ≡ switch_given files out (switched c ports every k.file said)))) g i.config i.spells captured in
    let meant : next t.ports g = subst (λ r. OfGroups files next g r) t.says spelled in
    let given : g ≡ switch_given files out (switched i.config t.ports every k.file k.said) = subst (λ r. OfCapture files (λ said x. x ≡ switch_given files out (switched i.config t.ports every k.file said)) g r) k.says meant in
    ap (λ (x : Given). x.status) given

verify_ready : OneMeaning → OneMap → (files : Files) (program entries image map : List ℕ) (g : Given) → IsReady files (Verify program entries image map) → GivesVerify files program entries image map g → g.status ≡ Done
verify_ready one maps files program entries image map g ready h =
    ap (λ (x : Given). x.status) (verify_checks one maps files program entries image map g ready.0 ready.1 ready.2 ready.3 ready.4 h).2

pub is_complete : OneMeaning → OneMap → IsComplete
is_complete one maps files (Compile program entries image) g ready h = image_ready one ByRule files program entries (image_alone image) g ready h
is_complete one maps files (CompileMap program entries image map) g ready h = image_ready one ByRule files program entries (with_map image map) g ready h
is_complete one maps files (Improve program entries image budget) g ready h = image_ready one (ByTries budget) files program entries (image_alone image) g ready h
is_complete one maps files (Sim image packets) g ready h = run_ready Answers files image packets g ready h
is_complete one maps files (Probe image packets cycle) g ready h = run_ready (Vectors cycle) files image packets g ready h
is_complete one maps files (Plain program entries packets) g ready h = plain_ready one files program entries packets g ready h
is_complete one maps files (Report image) g ready h =
    let read = read_within files image image_limit (λ bytes. Spelled files bytes (λ c k. k ≡ told files Done (report_line c))) g (ready.bytes, ready.has_bytes) h in
    ap (λ (k : Given). k.status) (spelled_is files ready.bytes (λ c k. k ≡ told files Done (report_line c)) g ready.config ready.spells read)
is_complete one maps files (Sample number) g ready h = sample_ready one files number g ready h
is_complete one maps files (Switch image groups capture out every) g ready h = switch_ready files image groups capture out every g ready.0 ready.1 ready.2 h
is_complete one maps files (Verify program entries image map) g ready h = verify_ready one maps files program entries image map g ready h
