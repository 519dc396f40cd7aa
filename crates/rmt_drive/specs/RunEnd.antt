-- With what a run over a packet text ends.
use Rattle.std.specs.Prelude.{Option, Some, None, option_map, ◌≡◌, ◌≢◌, ◌≤◌, ◌<◌, ℕ, List, [], length}
use Rattle.rmt_packets.specs.PacketText.{BadLine}
use Rattle.rmt_runs.specs.declared.fault.Bad.{Bad}
use Rattle.rmt_runs.specs.declared.fault.RunFault.{RunFault}
use Rattle.rmt_runs.specs.declared.fault.RunFault.TheVariants.{NoMemory, Write, Read, TooLong}
use Rattle.rmt_drive.specs.declared.status.Status.{Status}
use Rattle.rmt_drive.specs.declared.status.Status.TheVariants as status
use Rattle.rmt_io.specs.Outside.{SinkState}
use Rattle.rmt_runs.specs.Printing.{GainedFront}
use Rattle.rmt_drive.specs.Runs.{Way, said_within, told_within}

-- a bad line, as the definition of packet texts has it
abbrev pub bad_line : Option Bad → Option BadLine
bad_line bad = option_map (λ (b : Bad). record { code = b.code; line = b.line }) bad

abbrev pub status_of_fault : RunFault → Status
status_of_fault NoMemory = status.NoMemory
status_of_fault Write = status.WriteFault
status_of_fault Read = status.ReadFault
status_of_fault TooLong = status.TooLong

abbrev pub status_of_end : Option Bad → Status
status_of_end None = status.Done
status_of_end (Some bad) = status.BadPackets

-- A text of which so many bytes may be read was read to its end, or to its first bad line: it says this.
pub record ReadsAllBy {X : Type 0} (way : Way X) (limit : ℕ) (text : List ℕ) (said : X) : Type 0 where
  pub says : said_within way limit text ≡ said
  pub ends : way.bad said ≡ None → length text ≤ limit

-- A run over a text ended early: a front of what the text gives was printed, a fault of the sink comes only where that is something, and TooLong only of a text that goes
-- on behind its limit and has no bad line within it.
pub record BreaksBy {X : Type 0} (way : Way X) (printed : X → List ℕ) (limit : ℕ) (text : List ℕ) (before now : SinkState) (fault : RunFault) : Type 0 where
  pub front : GainedFront before now (printed (told_within way limit text (way.bad (said_within way limit text))))
  pub some : fault ≡ Write → printed (told_within way limit text (way.bad (said_within way limit text))) ≢ []
  pub long : fault ≡ TooLong → limit < length text
  pub within : fault ≡ TooLong → way.bad (said_within way limit text) ≡ None
