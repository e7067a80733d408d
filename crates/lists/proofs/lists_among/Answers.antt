-- The goals of `lists::lists_among` that want a word.
use Rattle.lists.proofs.Answered.{lists-rootless}
use Rattle.lists.proofs.Among.{out_one, out-located, lists-own}
use Rattle.lists.proofs.lists_among.Goals as goal

pub returns-then-not-has_root : goal.returns-then-not-has_root
returns-then-not-has_root c = lists-rootless c.args.words.now c.requires _ _ c.has_root.ensures c.if-not-has_root.true _ _

pub stand_alone-s-requires : goal.stand_alone-s-requires
stand_alone-s-requires c = out_one c.args.words.now c.requires (c.type_inv.words 1) c.args.root.0 _ c.has_root.ensures c.if-not-has_root.false _ c.take_out.ensures

pub lists_alone-requires : goal.lists_alone-requires
lists_alone-requires c = out-located c.args.words.now c.requires (c.type_inv.words 1) c.args.root.0 _ c.has_root.ensures c.if-not-has_root.false _ c.take_out.ensures _ c.stand_alone-s.ensures

pub returns : goal.returns
returns c = lists-own c.args.words.now c.requires (c.type_inv.words 1) c.args.root.0 _ c.has_root.ensures c.if-not-has_root.false _ c.take_out.ensures _ _ c.lists_alone.ensures
