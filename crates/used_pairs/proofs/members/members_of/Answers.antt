use Rattle.std.proofs.Common.{length, arith}
use Rattle.used_pairs.proofs.Listing.{members_places}
use Rattle.used_pairs.proofs.members.members_of.Goals as goal

pub mark_members-requires : goal.mark_members-requires
mark_members-requires c = record { within = members_places c.args.frames.now c.loop-i.i c.args.places (length c.loop-i.bits) c.pairs_of.result.now c.requires.within (omega arith) c.loop-i.invariant.size c.pairs_of.ensures }
