-- What a program must be for a run to be safe.
use Rattle.std.specs.Prelude.{◌≡◌, ◌*◌, ◌≤◌, All}
use Rattle.rmt_ast.specs.declared.program.Program.{Program}
use Rattle.rmt_ast.specs.declared.program.Field.{Field}
use Rattle.rmt_ast.specs.declared.program.Header.{Header}
use Rattle.rmt_ast.specs.WellFormed.{bits_of}

-- a header of at most 64 whole bytes
pub record HeaderFits (p : Program) (h : Header) : Type 0 where
  pub whole : bits_of p h.fields ≡ 8 * h.bytes
  pub few : h.bytes ≤ 64

-- fields of at most 128 bits, and headers that fit
pub record IsRunnable (p : Program) : Type 0 where
  pub narrow : All (λ (f : Field). f.width ≤ 128) p.fields
  pub headers : All (HeaderFits p) p.headers
