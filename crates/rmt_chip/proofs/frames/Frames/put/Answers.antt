use Rattle.std.proofs.Common.{◌≡◌, ◌<◌, ◌≤◌, ◌++◌, ◌∷◌, ℕ, List, [], Option, Some, get_or, set, length, map, sym, ap, subst, ◌∙◌, arith}
use Rattle.std.proofs.lemmas.List.{map-set}
use Rattle.std.proofs.lemmas.List.Sorted.{IsPermutation-middle, IsPermutation-sym}
use Rattle.rmt_cells.specs.declared.cells.Cells.{Cells}
use Rattle.rmt_cells.specs.declared.cells.Chain.{Chain}
use Rattle.rmt_cells.specs.Stands.{Held, Stands, held_if}
use Rattle.rmt_cells.proofs.Orders.{reordered}
use Rattle.rmt_chip.specs.Frames.{AreFrames, frame_cells, frames_in}
use Rattle.rmt_chip.proofs.FrameLaws.{front_of, back_of, split_at, room_left, frame_put, frames_told, set_twice}
use Rattle.rmt_chip.proofs.frames.Frames.put.Goals as goal

module _ (cells : Cells) (cs : List (Option Chain)) (at : ℕ) (inside : at < length cs) (stand : AreFrames cells cs (frames_in cells cs)) where
  abbrev fs : List (List ℕ)
  fs = frames_in cells cs

  -- the chain that is taken out stands between those before and behind it
  taken : (old c : Option Chain) → c ≡ get_or cs at old → Stands (frame_cells (length cs)) (front_of cs fs at ++ (held_if c (get_or fs at []) ++ back_of cs fs at)) cells
  taken old c is =
      subst (λ (o : Option Chain). Stands (frame_cells (length cs)) (front_of cs fs at ++ (held_if o (get_or fs at []) ++ back_of cs fs at)) cells) (sym is)
      (subst (λ (hs : List Held). Stands (frame_cells (length cs)) hs cells) (split_at cs fs at old [] inside stand.as_many) stand.stands)

  -- and the new one in its place
  placed : (new : Cells) (chain : Chain) (bytes : List ℕ) → length bytes ≤ 9216 → Stands (frame_cells (length cs)) (record { chain = chain; bytes = bytes } ∷ (front_of cs fs at ++ back_of cs fs at)) new
      → AreFrames new (set cs at (Some chain)) (set fs at bytes)
  placed new chain bytes short put =
      let front = front_of cs fs at in
      let back = back_of cs fs at in
      let one : Held = record { chain = chain; bytes = bytes } in
      frame_put cells new cs at chain bytes inside short stand
      (reordered (frame_cells (length cs)) (one ∷ (front ++ back)) (front ++ one ∷ back) new put (IsPermutation-sym (front ++ one ∷ back) (one ∷ (front ++ back)) (IsPermutation-middle front one back)))

pub clear-requires : goal.clear-requires
clear-requires c =
    let self = c.args.self.now in
    let cs = self.chains.items in
    let fs = frames_in self.cells cs in
    let inside : c.args.at < length cs = omega (arith, self.stand.as_many, c.requires.exists) in
    (frame_cells (length cs), front_of cs fs c.args.at, back_of cs fs c.args.at, get_or fs c.args.at [], taken self.cells cs c.args.at inside self.stand c.index_mut.result.now c.take-old.result (c.take-old.ensures.value ∙ c.index_mut.ensures.value))

pub put_short-chain-requires-clause-room : goal.put_short-chain-requires-clause-room
put_short-chain-requires-clause-room c =
    let self = c.args.self.now in
    let cs = self.chains.items in
    let fs = frames_in self.cells cs in
    let inside : c.args.at < length cs = omega (arith, self.stand.as_many, c.requires.exists) in
    let was = taken self.cells cs c.args.at inside self.stand c.index_mut.result.now c.take-old.result (c.take-old.ensures.value ∙ c.index_mut.ensures.value) in
    (frame_cells (length cs), front_of cs fs c.args.at ++ back_of cs fs c.args.at, c.clear.ensures _ _ _ (get_or fs c.args.at []) was, room_left cs fs c.args.at inside self.stand.as_many self.stand.short)

pub invariant_of-self : goal.invariant_of-self
invariant_of-self c =
    let self = c.args.self.now in
    let cs = self.chains.items in
    let at = c.args.at in
    let inside : at < length cs = omega (arith, self.stand.as_many, c.requires.exists) in
    let put = c.put_short-chain.ensures _ _ (c.clear.ensures _ _ _ _ (taken self.cells cs at inside self.stand c.index_mut.result.now c.take-old.result (c.take-old.ensures.value ∙ c.index_mut.ensures.value))) in
    let new = c.put_short-chain.new.cells in
    let are = placed self.cells cs at inside self.stand new c.put_short-chain.result c.args.bytes.now c.requires.short put in
    let chains = set cs at (Some c.put_short-chain.result) in
    let frames = set (frames_in self.cells cs) at c.args.bytes.now in
    let twice = set_twice cs at c.take-old.new.self (Some c.put_short-chain.result) in
    record {
      stand = subst (λ (xs : List (Option Chain)). AreFrames new xs (frames_in new xs)) (sym twice) (subst (AreFrames new chains) (frames_told new chains frames are) are);
      sized =
          ap (λ (ns : List ℕ). set ns at (length c.args.bytes.now)) self.sized
          ∙ sym (map-set length (frames_in self.cells cs) at c.args.bytes.now)
          ∙ ap (map length) (frames_told new chains frames are ∙ ap (frames_in new) (sym twice));
    }

pub returns : goal.returns
returns c =
    let self = c.args.self.now in
    let cs = self.chains.items in
    let inside : c.args.at < length cs = omega (arith, self.stand.as_many, c.requires.exists) in
    let put = c.put_short-chain.ensures _ _ (c.clear.ensures _ _ _ _ (taken self.cells cs c.args.at inside self.stand c.index_mut.result.now c.take-old.result (c.take-old.ensures.value ∙ c.index_mut.ensures.value))) in
    ap (frames_in c.put_short-chain.new.cells) (set_twice cs c.args.at c.take-old.new.self (Some c.put_short-chain.result))
    ∙ sym (frames_told _ _ _ (placed self.cells cs c.args.at inside self.stand c.put_short-chain.new.cells c.put_short-chain.result c.args.bytes.now c.requires.short put))
