-- The instructions of a table.
use Rattle.std.specs.Prelude.{◌≡◌, ℕ, All, true, false, List, [], ◌∷◌, ◌++◌}
use Rattle.std.specs.List.{AllZip}
use Rattle.rmt_bits.specs.declared.lane.Lane.{Lane}
use Rattle.rmt_filling.specs.Types.{Program, Table, Vliw}
use Rattle.rmt_config.specs.CodeForm.{vliw_is_formed}
use Rattle.rmt_pack.specs.Placements.{data_bits}
use Rattle.rmt_vliw.specs.Coded.{IsCodeOf, IsDefaultCodeOf}

-- the instructions of the actions of a list, in its order
abbrev pub DoActions : Program → List (List Lane) → List ℕ → List Vliw → Type 0
DoActions p places actions code = AllZip (λ a (v : Vliw). IsCodeOf p places a v.ops) actions code

-- those of a table: of its listed actions, and then of its default
pub record DoTable (p : Program) (places : List (List Lane)) (t : Table) (code : List Vliw) : Type 0 where
  pub listed : List Vliw
  pub last : Vliw
  pub in_order : code ≡ listed ++ last ∷ []
  pub actions : DoActions p places t.actions listed
  pub default : IsDefaultCodeOf p places t.default t.args last.ops
  -- each is formed at its place in a slot with the table's data
  pub formed : All (λ (v : Vliw). vliw_is_formed (record { held = data_bits p t; is_default = false }) v ≡ true) listed
  pub formed_last : vliw_is_formed (record { held = data_bits p t; is_default = true }) last ≡ true
