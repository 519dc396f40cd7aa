-- A configuration's look-ups are those in its own view.
use Rattle.std.proofs.Common.{◌≡◌, ℕ, Option, Some, None, refl, ap, ◌∙◌}
use Rattle.std.specs.Prelude.{find, option_and_then, option_map, slice_get, unwrap_or}
use Rattle.rmt_bits.proofs.FunctionLaws.{funext}
use Rattle.rmt_refine.specs.Types.{Config, Stage, Unit, SlotUnit}
use Rattle.rmt_config.specs.declared.config.Unit.TheVariants.{Gate, Slot}
use Rattle.rmt_config.specs.LaneForm.{bits_of_lanes}
use Rattle.rmt_config.specs.Cells.{Content, Found, candidates, code_of, content_of, found_in, has_key, look_up, number_of_cell}
use Rattle.rmt_config.specs.ChipRun.{own_look, slot_look}
use Rattle.rmt_refine.specs.View.{as_slot, found_at, found_in_slot, look_in, no_content, own_content, own_number, own_view, slot_at, slot_of}

-- a slot that stands there
pub content_is : (c : Config) (k place : ℕ) (stage : Stage) (slot : SlotUnit) → slice_get c.stages k ≡ Some stage → slot_of stage place ≡ Some slot
    → (n : ℕ) → own_content c k place n ≡ content_of stage slot n
content_is c k place stage slot e u n =
    ap (λ (o : Option Stage). unwrap_or (option_and_then (λ (x : Stage). option_map (λ (y : SlotUnit). content_of x y n) (slot_of x place)) o) no_content) e
    ∙ ap (λ (o : Option SlotUnit). unwrap_or (option_map (λ (y : SlotUnit). content_of stage y n) o) no_content) u

slot_there : (c : Config) (k place : ℕ) (stage : Stage) (slot : SlotUnit) → slice_get c.stages k ≡ Some stage → slot_of stage place ≡ Some slot → slot_at c k place ≡ Some slot
slot_there c k place stage slot e u = ap (option_and_then (λ (x : Stage). slot_of x place)) e ∙ u

pub number_is : (c : Config) (k place : ℕ) (stage : Stage) (slot : SlotUnit) → slice_get c.stages k ≡ Some stage → slot_of stage place ≡ Some slot
    → (n : ℕ) → own_number c k place n ≡ number_of_cell slot.numbers n
number_is c k place stage slot e u n =
    ap (λ (o : Option SlotUnit). unwrap_or (option_map (λ (y : SlotUnit). number_of_cell y.numbers n) o) 0) (slot_there c k place stage slot e u)

same_found : (x y : Content) (m n : ℕ) → x ≡ y → m ≡ n
    → ◌≡◌ {A = Found} (record { code = code_of x.head; held = x.held; number = m }) (record { code = code_of y.head; held = y.held; number = n })
same_found x y m n ex en = λ i. record { code = code_of (ex i).head; held = (ex i).held; number = en i }

slot_found : (c : Config) (k place key : ℕ) (stage : Stage) (slot : SlotUnit) → slice_get c.stages k ≡ Some stage → slot_of stage place ≡ Some slot
    → found_in_slot (own_view c) k place key slot ≡ look_up c.seed stage slot key
slot_found c k place key stage slot e u =
    let cells = candidates c.seed (bits_of_lanes slot.keys) slot.memory key in
    let tests = funext (λ n. has_key key (own_content c k place n)) (λ n. has_key key (content_of stage slot n))
    (λ n. ap (has_key key) (content_is c k place stage slot e u n)) in
    let founds = funext (found_at (own_view c) k place) (λ n. found_in slot.numbers n (content_of stage slot n))
    (λ n. same_found (own_content c k place n) (content_of stage slot n) (own_number c k place n) (number_of_cell slot.numbers n)
    (content_is c k place stage slot e u n) (number_is c k place stage slot e u n)) in
    ap (λ test. option_map (found_at (own_view c) k place) (find test cells)) tests
    ∙ ap (λ found. option_map found (find (λ n. has_key key (content_of stage slot n)) cells)) founds

-- ---- by what stands there

in_stage : (c : Config) (k place key : ℕ) (stage : Stage) → slice_get c.stages k ≡ Some stage → (o : Option Unit) → slice_get stage.units place ≡ o
    → option_and_then (found_in_slot (own_view c) k place key) (option_and_then as_slot o) ≡ slot_look c.seed stage o key
in_stage c k place key stage e None u = refl
in_stage c k place key stage e (Some (Gate g)) u = refl
in_stage c k place key stage e (Some (Slot slot)) u = slot_found c k place key stage slot e (ap (option_and_then as_slot) u)

at_stage : (c : Config) (k place key : ℕ) (o : Option Stage) → slice_get c.stages k ≡ o
    → option_and_then (found_in_slot (own_view c) k place key) (option_and_then (λ (x : Stage). slot_of x place) o)
    ≡ option_and_then (λ (x : Stage). slot_look c.seed x (slice_get x.units place) key) o
at_stage c k place key None e = refl
at_stage c k place key (Some stage) e = in_stage c k place key stage e (slice_get stage.units place) refl

pub own_look_law : (c : Config) (k place key : ℕ) → look_in c (own_view c) k place key ≡ own_look c k place key
own_look_law c k place key = at_stage c k place key (slice_get c.stages k) refl
