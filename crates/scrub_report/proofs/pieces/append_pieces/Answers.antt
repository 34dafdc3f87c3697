-- One more piece, and at the end all.
use Rattle.std.proofs.Common.{rules, ◌*◌, ◌++◌, length, [], ◌∷◌, arith, refl, ap, ◌∙◌}
use Rattle.std.proofs.lemmas.Iterator.Adapters.{YieldsList-from_vec}
use Rattle.std.proofs.lemmas.Iterator.Consumers.{YieldsList-end, YieldsList-turn}
use Rattle.std.proofs.lemmas.List.{length_push, take_all}
use Rattle.std.proofs.lemmas.Option.{slice_get_read}
use Rattle.json.specs.Print.{print}
use Rattle.scrub_report.specs.steps.Tokens.{values_tokens}
use Rattle.scrub_report.proofs.PieceTexts.{no_piece, piece_begins, pieces_end, with_piece}
use Rattle.scrub_report.proofs.pieces.append_pieces.Goals as goal

pub loop-piece-init : goal.loop-piece-init
loop-piece-init c = λ values size some are. no_piece c.args.text.now.items values size

pub loop-piece-preserved : goal.loop-piece-preserved
loop-piece-preserved c = λ values size some are.
    let texts = c.args.pieces.items in
    let n = length c.loop-piece.yielded in
    let turn = YieldsList-turn (YieldsList-from_vec {s = c.into_iter-piece-iterator.result} texts (search rules) (search rules)) c.loop-piece.yielded _ c.loop-piece.yielded_by _ c.next.new.self c.in-Some.piece c.in-Some.is
    c.next.ensures.steps in
    let there = slice_get_read texts (length texts) n c.in-Some.piece refl turn.0 turn.1 in
    let each = rw there at (are.each n) in
    let text = rw c.in_ok-piece.was at each in
    let begins = piece_begins n (length texts) size (length values) some are.count turn.0 in
    c.in_ok-extend_from_slice.ensures.items
    ∙ with_piece values n (length (c.loop-piece.yielded ++ c.in-Some.piece ∷ [])) size c.args.text.now.items c.loop-piece.text.items c.deref.result.now
    begins some (length_push c.loop-piece.yielded c.in-Some.piece) (c.loop-piece.invariant values size some are) (c.deref.ensures.value ∙ text)

pub returns : goal.returns
returns c = λ values size some are.
    let texts = c.args.pieces.items in
    let n = length c.loop-piece.yielded in
    let end = YieldsList-end (YieldsList-from_vec {s = c.into_iter-piece-iterator.result} texts (search rules) (search rules)) c.loop-piece.yielded _ c.loop-piece.yielded_by _ c.next.new.self c.in-None.is
    c.next.ensures.steps in
    let reached = pieces_end n (length texts) size (length values) some are.count (omega (arith, end.1)) in
    c.loop-piece.invariant values size some are
    ∙ ap (λ ds. c.args.text.now.items ++ print (values_tokens ds)) (take_all (n * size) values reached)
