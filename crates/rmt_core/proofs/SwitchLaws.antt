-- What calls of `switch` leave.
use Rattle.std.proofs.Common.{◌≡◌, ◌≢◌, ◌⊎◌, inl, inr, ⊎_elim, ℕ, List, [], Result, Ok, Err, refl, sym, ap, ◌∙◌, subst}
use Rattle.std.specs.Prelude.{IsTrue}
use Rattle.rmt_io.specs.Outside.{ShelfState, SinkState, OnlyRead, ReadingFailed}
use Rattle.rmt_io.proofs.OutsideLaws.{only_printed_refl, tells_later}
use Rattle.rmt_items.specs.declared.fault.ImageFault.TheVariants as image_fault
use Rattle.rmt_pcap.specs.declared.capture.Capture.{Capture as Said}
use Rattle.rmt_pcap.specs.declared.fault.CaptureFault.TheVariants as capture_fault
use Rattle.rmt_pcap.specs.Captures.{capture_of}
use Rattle.rmt_switch.specs.declared.fault.GroupFault.{GroupFault}
use Rattle.rmt_switch.specs.declared.fault.GroupFault.TheVariants as group_fault
use Rattle.rmt_switch.specs.GroupText.{groups_of}
use Rattle.rmt_switch.specs.Switch.{switched}
use Rattle.rmt_core.specs.Types.{Config}
use Rattle.rmt_drive.specs.declared.status.Status.{Status}
use Rattle.rmt_drive.specs.declared.status.Status.TheVariants as status
use Rattle.rmt_core.specs.declared.switching.setup.Inputs.{Inputs}
use Rattle.rmt_core.specs.declared.switching.setup.SetupFault.{SetupFault}
use Rattle.rmt_core.specs.declared.switching.setup.SetupFault.TheVariants.{Image, Groups, Capture}
use Rattle.rmt_drive.specs.Ends.{Answered, AreSame, Outside, WritesAndPrints, outside}
use Rattle.rmt_drive.specs.Files.{Files, Absent, Holds, Long, capture_limit, found, groups_limit, image_limit}
use Rattle.rmt_drive.specs.Given.{Given, OfFound, Reads, told}
use Rattle.rmt_drive.specs.Loading.{IsFound, NotRead}
use Rattle.rmt_drive.specs.SimText.{bad_packets_line}
use Rattle.rmt_core.specs.Switching.{HasCapture, HasGroups, OfCapture, OfGroups, Switches, switch_given}
use Rattle.rmt_core.specs.SwitchSetup.{AreFound, IsImageOf, NoneRead, SaysFault, no_capture, no_groups, no_image, setup_fault_line, setup_fault_status}
use Rattle.rmt_drive.specs.Telling.{Tells}
use Rattle.rmt_core.specs.Texts.{bad_entries_line}
use Rattle.rmt_core.proofs.CallLaws.{unread_unwritten, write_behind}
use Rattle.rmt_drive.proofs.EndLaws.{later, no_memory, not_read}
use Rattle.rmt_core.proofs.GoingOn.{bad_image_answered, refused}
use Rattle.rmt_core.proofs.TextLaws.{line_answered}

-- ---- the three files

-- what is said of a file behind a reading is said of it as it was before
pub found_before : (before mid : ShelfState) (name : List ℕ) (limit : ℕ) (bytes : List ℕ) → OnlyRead before mid → IsFound mid name limit bytes → IsFound before name limit bytes
found_before before mid name limit bytes r is tells = subst (λ o. found limit o ≡ Holds bytes) (r.files name) (is (tells_later r tells))

pub unread_before : (before mid : ShelfState) (name : List ℕ) (limit : ℕ) (s : Status) → OnlyRead before mid → NotRead mid name limit s → NotRead before name limit s
unread_before before mid name limit s r w = record {
  kind = w.kind;
  long = λ e tells. subst (λ o. found limit o ≡ Long) (r.files name) (w.long e (tells_later r tells));
  absent = λ e steady. subst (λ o. found limit o ≡ Absent) (r.files name) (w.absent e (r.stays_steady steady));
}

-- a file was found
pub answered_found : (before after : Outside) (name : List ℕ) (limit : ℕ) (bytes : List ℕ) (next : List ℕ → Given → Type 0) (s : Status) → IsFound before.shelf name limit bytes → IsTrue before.shelf.tells
    → Answered before after (next bytes) s → Answered before after (Reads before.shelf.files name limit next) s
answered_found before after name limit bytes next s is tells h = subst (λ f. Answered before after (λ g. OfFound before.shelf.files next g f) s) (sym (is tells)) h

-- a command that reads three files, and goes on with them
abbrev pub ReadsThree : Files → List ℕ → List ℕ → List ℕ → (List ℕ → List ℕ → List ℕ → Given → Type 0) → Given → Type 0
ReadsThree files image groups capture next =
    Reads files image image_limit (λ bytes. Reads files groups groups_limit (λ text. Reads files capture capture_limit (λ file. next bytes text file)))

module _ (image groups capture : List ℕ) where
  -- all were read
  pub all_read : (before after : Outside) (mid : ShelfState) (inputs : Inputs) (next : Files → List ℕ → List ℕ → List ℕ → Given → Type 0) (s : Status) → OnlyRead before.shelf mid
      → AreFound before.shelf image groups capture inputs
      → WritesAndPrints (outside mid before.sink) after (λ files. next files inputs.image.items inputs.groups.items inputs.capture.items) s
      → WritesAndPrints before after (λ files. ReadsThree files image groups capture (next files)) s
  all_read before after mid inputs next s r found h =
      let files = before.shelf.files in
      let b = inputs.image.items in
      let t = inputs.groups.items in
      let f = inputs.capture.items in
      write_behind before after mid (λ fs. next fs b t f) (λ fs. ReadsThree fs image groups capture (next fs)) s r
      (λ tells.
      answered_found before after image image_limit b (λ bytes. Reads files groups groups_limit (λ text. Reads files capture capture_limit (λ file. next files bytes text file))) s found.image tells
      (answered_found before after groups groups_limit t (λ text. Reads files capture capture_limit (λ file. next files b text file)) s found.groups tells
      (answered_found before after capture capture_limit f (λ file. next files b t file) s found.capture tells
      (later before after mid (λ fs. next fs b t f) s r (h.answered (tells_later r tells)))))) h

  pub none_read_kind : {shelf : ShelfState} {s : Status} → NoneRead shelf image groups capture s → (s ≡ status.ReadFault) ⊎ (s ≡ status.TooLong) ⊎ (s ≡ status.NoMemory)
  none_read_kind (no_image w) = w.kind
  none_read_kind (no_groups b i w) = w.kind
  none_read_kind (no_capture b t i g w) = w.kind

  module _ (before : ShelfState) (sink : SinkState) (after : ShelfState) (next : Files → List ℕ → List ℕ → List ℕ → Given → Type 0) (s : Status) (r : OnlyRead before after) where
    none_answered : IsTrue before.tells → NoneRead before image groups capture s → Answered (outside before sink) (outside after sink) (ReadsThree before.files image groups capture (next before.files)) s
    none_answered tells (no_image w) =
        not_read before sink after image (λ bytes. Reads before.files groups groups_limit (λ text. Reads before.files capture capture_limit (λ file. next before.files bytes text file))) image_limit s r w tells
    none_answered tells (no_groups b i w) =
        answered_found (outside before sink) (outside after sink) image image_limit b
        (λ bytes. Reads before.files groups groups_limit (λ text. Reads before.files capture capture_limit (λ file. next before.files bytes text file))) s i tells
        (not_read before sink after groups (λ text. Reads before.files capture capture_limit (λ file. next before.files b text file)) groups_limit s r w tells)
    none_answered tells (no_capture b t i g w) =
        answered_found (outside before sink) (outside after sink) image image_limit b
        (λ bytes. Reads before.files groups groups_limit (λ text. Reads before.files capture capture_limit (λ file. next before.files bytes text file))) s i tells
        (answered_found (outside before sink) (outside after sink) groups groups_limit t (λ text. Reads before.files capture capture_limit (λ file. next before.files b text file)) s g tells
        (not_read before sink after capture (λ file. next before.files b t file) capture_limit s r w tells))

    -- one was not read
    pub none_read : NoneRead before image groups capture s → (s ≡ status.ReadFault → ReadingFailed before after)
        → WritesAndPrints (outside before sink) (outside after sink) (λ files. ReadsThree files image groups capture (next files)) s
    none_read why fault = record {
      answered = λ tells. none_answered tells why;
      quiet = λ _ _. refl;
      read_fault = fault;
      write_fault = unread_unwritten s (none_read_kind why);
      steady_write = unread_unwritten s (none_read_kind why);
      tells = r.tells;
      only_printed = only_printed_refl sink;
    }

-- ---- what they say

module _ (files : Files) (out : List ℕ) (every : ℕ) (image groups capture : List ℕ) (c : Config) (is : IsImageOf image c) where
  with_groups : (g : Given) (r : Result (List (List ℕ)) GroupFault) → groups_of groups ≡ r
      → OfGroups files (λ ports. HasCapture files capture (λ said h. h ≡ switch_given files out (switched c ports every capture said))) g r → Switches files out every image groups capture g
  with_groups g r e h =
      (Ok c, is.answers, subst (λ x. OfGroups files (λ ports. HasCapture files capture (λ said h. h ≡ switch_given files out (switched c ports every capture said))) g x) (sym e) h)

  with_capture : (g : Given) (ports : List (List ℕ)) → groups_of groups ≡ Ok ports → (r : Result Said ℕ) → capture_of capture ≡ r
      → OfCapture files (λ said h. h ≡ switch_given files out (switched c ports every capture said)) g r → Switches files out every image groups capture g
  with_capture g ports groups_are r e h =
      with_groups g (Ok ports) groups_are (subst (λ x. OfCapture files (λ said h. h ≡ switch_given files out (switched c ports every capture said)) g x) (sym e) h)

  -- what is run is given
  pub run_is_given : (ports : List (List ℕ)) (said : Said) → groups_of groups ≡ Ok ports → capture_of capture ≡ Ok said
      → Switches files out every image groups capture (switch_given files out (switched c ports every capture said))
  run_is_given ports said groups_are capture_is = with_capture (switch_given files out (switched c ports every capture said)) ports groups_are (Ok said) capture_is refl

  bad_groups_given : (code line : ℕ) → groups_of groups ≡ Err (group_fault.At code line) → Switches files out every image groups capture (told files status.BadEntries (bad_entries_line code line))
  bad_groups_given code line e = with_groups (told files status.BadEntries (bad_entries_line code line)) (Err (group_fault.At code line)) e refl

  bad_capture_given : (ports : List (List ℕ)) (code : ℕ) → groups_of groups ≡ Ok ports → capture_of capture ≡ Err code
      → Switches files out every image groups capture (told files status.BadPackets (bad_packets_line code 0))
  bad_capture_given ports code groups_are e = with_capture (told files status.BadPackets (bad_packets_line code 0)) ports groups_are (Err code) e refl

-- a call for which memory was wanting told nothing
none_told : (before after : Outside) (gives : Given → Type 0) (s : Status) → AreSame after.shelf.files before.shelf.files → Tells before.sink after.sink [] status.NoMemory s → Answered before after gives s
none_told before after gives s same t =
    ⊎_elim (λ e. rw e (no_memory before after gives same (t.quiet e)))
    (λ rest. ⊎_elim (λ e. absurd (t.some e refl)) (λ e. rw e (no_memory before after gives same (t.quiet e))) rest) t.kind

-- a call that told why they say nothing
pub setup_fault_answered : (before after : Outside) (out : List ℕ) (every : ℕ) (image groups capture : List ℕ) (fault : SetupFault) (s : Status) → SaysFault image groups capture fault
    → (fault ≡ Image image_fault.NoMemory → s ≡ status.NoMemory) → AreSame after.shelf.files before.shelf.files
    → Tells before.sink after.sink (setup_fault_line fault) (setup_fault_status fault) s → Answered before after (Switches before.shelf.files out every image groups capture) s
setup_fault_answered before after out every bytes text file fault s says want same t = by fault says want t
  where
    gives : Given → Type 0
    gives = Switches before.shelf.files out every bytes text file

    by : (fault : SetupFault) → SaysFault bytes text file fault → (fault ≡ Image image_fault.NoMemory → s ≡ status.NoMemory)
        → Tells before.sink after.sink (setup_fault_line fault) (setup_fault_status fault) s → Answered before after gives s
    by (Image f) says want t =
        bad_image_answered before after bytes
        (λ c. HasGroups before.shelf.files text (λ ports. HasCapture before.shelf.files file (λ said g. g ≡ switch_given before.shelf.files out (switched c ports every file said)))) f s
        (λ ne. says (λ e. ne (ap refused e))) (λ e. want (ap Image e)) same t
    by (Groups group_fault.NoMemory) says want t = none_told before after gives s same t
    by (Groups (group_fault.At code line)) says want t =
        line_answered before after gives status.BadEntries s (bad_entries_line code line) (bad_groups_given before.shelf.files out every bytes text file says.0 says.1 code line says.2) same (inr (inr (inl refl))) t
    by (Capture capture_fault.NoMemory) says want t = none_told before after gives s same t
    by (Capture (capture_fault.Code code)) says want t =
        line_answered before after gives status.BadPackets s (bad_packets_line code 0)
        (bad_capture_given before.shelf.files out every bytes text file says.0 says.1 says.2 code says.3 says.4) same (inr (inr (inr (inr (inr refl))))) t

-- its status is no fault of reading, and not that of a file that is too long
setup_fault_other : (fault : SetupFault) → (setup_fault_status fault ≢ status.ReadFault) × (setup_fault_status fault ≢ status.TooLong)
setup_fault_other (Image f) = (λ e. cc, λ e. cc)
setup_fault_other (Groups group_fault.NoMemory) = (λ e. cc, λ e. cc)
setup_fault_other (Groups (group_fault.At code line)) = (λ e. cc, λ e. cc)
setup_fault_other (Capture capture_fault.NoMemory) = (λ e. cc, λ e. cc)
setup_fault_other (Capture (capture_fault.Code code)) = (λ e. cc, λ e. cc)

pub setup_fault_unread : (fault : SetupFault) → setup_fault_status fault ≢ status.ReadFault
setup_fault_unread fault = (setup_fault_other fault).0

pub setup_fault_short : (fault : SetupFault) → setup_fault_status fault ≢ status.TooLong
setup_fault_short fault = (setup_fault_other fault).1
