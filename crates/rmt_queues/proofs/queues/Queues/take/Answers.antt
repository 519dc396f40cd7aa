use Rattle.std.proofs.Common.{length, refl, arith}
use Rattle.rmt_queues.specs.declared.stored.Stored.{Stored}
use Rattle.rmt_queues.specs.Lists.{item_of}
use Rattle.rmt_queues.proofs.PopLaws.{back_held, first, front_held, given, index_below, is_held, item_told, last_stands, more_stand, none_stands, short, spare_fewer}
use Rattle.rmt_queues.proofs.queues.Queues.take.Goals as goal

pub returns-in-None-clause-stands : goal.returns-in-None-clause-stands
returns-in-None-clause-stands c = λ s stands.
    let (u, other, among) = c.requires.stands in
    none_stands s u c.args.self.now c.args.port stands other among c.index_mut.result.now c.index_mut.ensures.value c.in-None.ensures.first c.pop.new.self c.pop.ensures.rest c.pop.ensures.roomy _ refl refl

pub index_mut-item-requires : goal.index_mut-item-requires
index_mut-item-requires c =
    let (u, other, among) = c.requires.stands in
    let q = c.args.self.now in
    let lt = index_below u u q c.args.port other other among c.index_mut.result.now c.index_mut.ensures.value c.in-Some.index c.in-Some.ensures.first in
    let ok = q.stored.ok.0 in
    omega (arith, lt, ok)

pub read-len-requires : goal.read-len-requires
read-len-requires c =
    let (u, other, among) = c.requires.stands in
    record {
      held = is_held u u c.args.self.now c.args.port other other among c.index_mut.result.now c.index_mut.ensures.value c.in-Some.index c.in-Some.ensures.first c.index_mut-item.result.now c.index_mut-item.ensures.value
          (length c.args.into.now) c.requires.room;
    }

pub returns-then-item-gt1-clause-stands : goal.returns-then-item-gt1-clause-stands
returns-then-item-gt1-clause-stands c = λ s stands.
    let (u, other, among) = c.requires.stands in
    more_stand s u c.args.self.now c.args.port stands other among c.index_mut.result.now c.index_mut.ensures.value c.in-Some.index c.in-Some.ensures.first c.index_mut-item.result.now c.index_mut-item.ensures.value
    c.pop.new.self c.pop.ensures.rest c.pop.ensures.roomy _ refl refl refl refl refl refl c.if-item-gt1.true

pub returns-then-item-gt1-clause-item : goal.returns-then-item-gt1-clause-item
returns-then-item-gt1-clause-item c = λ s stands.
    let (u, other, among) = c.requires.stands in
    item_told s u c.args.self.now c.args.port stands other among c.index_mut.result.now c.index_mut.ensures.value c.in-Some.index c.in-Some.ensures.first c.index_mut-item.result.now c.index_mut-item.ensures.value
    c.read-len.result c.read-len.new.into c.read-len.ensures.bytes

pub returns-then-item-gt1-clause-within : goal.returns-then-item-gt1-clause-within
returns-then-item-gt1-clause-within c =
    let (u, other, among) = c.requires.stands in
    let small = short u u c.args.self.now c.args.port other other among c.index_mut.result.now c.index_mut.ensures.value c.in-Some.index c.in-Some.ensures.first c.index_mut-item.result.now c.index_mut-item.ensures.value in
    let size = c.read-len.auto.into in
    omega (arith, small, size, c.read-len.ensures.len, c.requires.room)

pub give_back-requires : goal.give_back-requires
give_back-requires c =
    let (u, other, among) = c.requires.stands in
    let q = c.args.self.now in
    let r = c.index_mut.result.now in
    let is = c.index_mut.ensures.value in
    let index = c.in-Some.index in
    let popped = c.in-Some.ensures.first in (
      front_held u u q c.args.port other other among r is index popped,
      back_held u u q c.args.port other other among r is index popped,
      item_of u (first u u q c.args.port other other among r is index popped).number,
      given u u q c.args.port other other among r is index popped c.index_mut-item.result.now c.index_mut-item.ensures.value c.take.result c.take.ensures.value,
    )

pub push_reserved-requires : goal.push_reserved-requires
push_reserved-requires c =
    let (u, other, among) = c.requires.stands in
    let q = c.args.self.now in
    let fewer = spare_fewer u u q c.args.port other other among c.index_mut.result.now c.index_mut.ensures.value c.in-Some.index c.in-Some.ensures.first in
    let room = other.at.spare_room in
    let ok = q.spare.ok.0 in
    omega (arith, fewer, room, ok)

pub returns-clause-stands : goal.returns-clause-stands
returns-clause-stands c = λ s stands.
    let (u, other, among) = c.requires.stands in
    let q = c.args.self.now in
    let r = c.index_mut.result.now in
    let is = c.index_mut.ensures.value in
    let index = c.in-Some.index in
    let popped = c.in-Some.ensures.first in
    let was = c.index_mut-item.result.now in
    let had = c.give_back.ensures (front_held s u q c.args.port stands other among r is index popped) (back_held s u q c.args.port stands other among r is index popped)
    (item_of s (first s u q c.args.port stands other among r is index popped).number)
    (given s u q c.args.port stands other among r is index popped was c.index_mut-item.ensures.value c.take.result c.take.ensures.value) in
    let gone : Stored = record { chain = c.take.new.self; len = was.len; copies = was.copies } in
    last_stands s u q c.args.port stands other among r is index popped was c.index_mut-item.ensures.value
    c.pop.new.self c.pop.ensures.rest c.pop.ensures.roomy _ refl refl gone refl had c.push_reserved.ensures.items c.push_reserved.ensures.capacity c.if-item-gt1.false

pub returns-clause-item : goal.returns-clause-item
returns-clause-item c = λ s stands.
    let (u, other, among) = c.requires.stands in
    item_told s u c.args.self.now c.args.port stands other among c.index_mut.result.now c.index_mut.ensures.value c.in-Some.index c.in-Some.ensures.first c.index_mut-item.result.now c.index_mut-item.ensures.value
    c.read-len.result c.read-len.new.into c.read-len.ensures.bytes

pub returns-clause-within : goal.returns-clause-within
returns-clause-within c =
    let (u, other, among) = c.requires.stands in
    let small = short u u c.args.self.now c.args.port other other among c.index_mut.result.now c.index_mut.ensures.value c.in-Some.index c.in-Some.ensures.first c.index_mut-item.result.now c.index_mut-item.ensures.value in
    let size = c.read-len.auto.into in
    omega (arith, small, size, c.read-len.ensures.len, c.requires.room)
