-- Why a program doesn't fit the chip, and in which order the reasons are looked at.
use Rattle.std.specs.Prelude.{◌≡◌, List, Option, Some, None, Result, Ok, Err, option_map}
use Rattle.std.specs.Option.{option_or}
use Rattle.rmt_bits.specs.declared.lane.Lane.{Lane}
use Rattle.rmt_build.specs.Types.{Program}
use Rattle.rmt_deps.specs.Edges.{dependencies_of}
use Rattle.rmt_pack.specs.declared.placement.Part.{Part}
use Rattle.rmt_phv.specs.declared.fault.PhvFull.{PhvFull}
use Rattle.rmt_phv.specs.declared.fault.PhvFull.TheVariants as phv
use Rattle.rmt_phv.specs.Packing.{packing}
use Rattle.rmt_ptcam.specs.declared.fault.ParserFault.{ParserFault}
use Rattle.rmt_ptcam.specs.declared.fault.ParserFault.TheVariants as parser
use Rattle.rmt_ptcam.specs.Needs.{refusal}
use Rattle.rmt_vliw.specs.declared.fault.ActionDeep.{ActionDeep}
use Rattle.rmt_vliw.specs.declared.fault.ActionDeep.TheVariants as action
use Rattle.rmt_place.specs.declared.fault.StageFull.{StageFull}
use Rattle.rmt_place.specs.declared.fault.StageFull.TheVariants as stage
use Rattle.rmt_place.specs.Placing.{Stuck, placement}
use Rattle.rmt_build.specs.declared.fault.NoFit.{NoFit}
use Rattle.rmt_build.specs.declared.fault.NoFit.TheVariants as no_fit
use Rattle.rmt_build.specs.Folds.{first_deep}

-- ---- the refusals of the steps, as those of the whole

-- there is not enough memory
abbrev pub IsNoMemory : NoFit → Type 0
IsNoMemory fault = fault ≡ no_fit.NoMemory

abbrev pub parser_told : ParserFault → NoFit
parser_told parser.NoMemory = no_fit.NoMemory
parser_told (parser.LookupWide header bytes) = no_fit.Lookup header bytes
parser_told (parser.StepWide header extracts) = no_fit.Step header extracts
parser_told (parser.ParserFull entries) = no_fit.Parser entries

abbrev pub action_told : ActionDeep → NoFit
action_told action.NoMemory = no_fit.NoMemory
action_told (action.At number field) = no_fit.Action number field

abbrev pub phv_told : PhvFull → NoFit
phv_told phv.NoMemory = no_fit.NoMemory
phv_told (phv.At field class) = no_fit.Phv field class

abbrev pub stage_told : StageFull → NoFit
stage_told stage.NoMemory = no_fit.NoMemory
stage_told (stage.At node placed hits) = no_fit.Stage node hits

-- ---- the first refusal before the entries are loaded

abbrev pub stuck_told : Result (List Part) Stuck → Option NoFit
stuck_told (Ok parts) = None
stuck_told (Err stuck) = Some (no_fit.Stage stuck.node stuck.hits)

-- fields that no word serves, else a node that doesn't stand
abbrev pub packed_told : Program → Result (List (List Lane)) PhvFull → Option NoFit
packed_told p (Err fault) = Some (phv_told fault)
packed_told p (Ok places) = stuck_told (placement p places (dependencies_of p places))

-- the parser, then the actions, then the fields, then the nodes
abbrev pub first_refusal : Program → Option NoFit
first_refusal p =
    option_or (option_map parser_told (refusal p))
    (option_or (option_map action_told (first_deep 0 p.actions)) (packed_told p (packing p)))
