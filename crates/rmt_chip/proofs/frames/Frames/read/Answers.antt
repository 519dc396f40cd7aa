use Rattle.std.proofs.Common.{◌≡◌, ℕ, ◌<◌, [], List, Option, None, Some, get_or, length, sym, ◌∙◌, arith}
use Rattle.std.proofs.lemmas.List.{get_or_default}
use Rattle.rmt_cells.specs.declared.cells.Chain.{Chain}
use Rattle.rmt_chip.specs.Frames.{frame_cells, frames_in, held_frames}
use Rattle.rmt_chip.proofs.FrameLaws.{there}
use Rattle.rmt_chip.proofs.frames.Frames.read.Goals as goal

-- the chain that was read, where one is
chain_at : (cs : List (Option Chain)) (at : ℕ) (read : Option Chain) (chain : Chain) → at < length cs → read ≡ get_or cs at read → read ≡ Some chain → get_or cs at None ≡ Some chain
chain_at cs at read chain inside is some = get_or_default cs at None read inside ∙ sym is ∙ some

pub read-requires : goal.read-requires
read-requires c =
    let self = c.args.self.now in
    let cs = self.chains.items in
    let inside : c.args.at < length cs = omega (arith, self.stand.as_many, c.requires.exists) in
    let fs = frames_in self.cells cs in
    let chain = there cs fs c.args.at c.in-Some.chain inside self.stand.as_many (chain_at cs c.args.at c.index.result.now c.in-Some.chain inside c.index.ensures c.in-Some.is) in
    record { held = (frame_cells (length cs), held_frames cs fs, get_or fs c.args.at [], self.stand.stands, chain, c.requires.within) }

pub returns-in-Some : goal.returns-in-Some
returns-in-Some c =
    let self = c.args.self.now in
    let cs = self.chains.items in
    let inside : c.args.at < length cs = omega (arith, self.stand.as_many, c.requires.exists) in
    c.read.ensures.bytes (frame_cells (length cs)) (held_frames cs (frames_in self.cells cs)) (get_or (frames_in self.cells cs) c.args.at []) self.stand.stands
    (there cs _ c.args.at c.in-Some.chain inside self.stand.as_many (chain_at cs c.args.at c.index.result.now c.in-Some.chain inside c.index.ensures c.in-Some.is)) c.requires.within
