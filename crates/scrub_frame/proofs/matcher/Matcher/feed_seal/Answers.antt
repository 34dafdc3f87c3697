-- The part of the piece is in the seal after what was there.
use Rattle.std.proofs.Common.{arith, refl, ◌≡◌, ◌≤◌, ◌+◌, ◌-◌, ℕ, List, ◌++◌, ap, ◌∙◌, length, take, drop, length-drop}
use Rattle.std.proofs.lemmas.List.{length-take-le}
use Rattle.scrub_frame.specs.Frame.{payload_start}
use Rattle.scrub_frame.specs.Matching.{form_in}
use Rattle.scrub_frame.proofs.Feeding.{seal_part}
use Rattle.scrub_frame.proofs.Claims.{IsHead, payload_start-in}
use Rattle.scrub_frame.proofs.matcher.Matcher.feed_seal.Goals as goal

-- a part written over a list s at the place p, as the code cuts it out of a piece x
written : (x s : List ℕ) (p a n : ℕ) → a + n ≤ length x →
    take p s ++ (take (a + n - a) (drop a x) ++ drop (p + length (take (a + n - a) (drop a x))) s) ≡ take p s ++ (take n (drop a x) ++ drop (p + n) s)
written x s p a n fits =
    ap (λ j. take p s ++ (take j (drop a x) ++ drop (p + length (take j (drop a x))) s))
    (let e : a + n - a ≡ n = omega arith in e)
    ∙ ap (λ j. take p s ++ (take n (drop a x) ++ drop (p + j) s))
    (length-take-le n (drop a x) (omega (arith, length-drop a x, fits)))

pub returns-clause-taken : goal.returns-clause-taken
returns-clause-taken c = λ t h.
    let m = c.args.self.now in
    let i : IsHead m.head c.args.claimed.now.form c.args.claimed.now.uuid c.args.claimed.now.length = record {
      whole = omega arith;
      short = omega arith;
      is = c.requires.claimed;
    } in
    let start : payload_start (form_in m.head) ≡ payload_start c.args.claimed.now.form = payload_start-in i in
    seal_part _ t c.args.piece.now c.args.from c.min-count.result h i.whole (omega arith) refl refl (omega arith) (omega arith)
    (omega (arith, start)) refl
    (c.put_part.ensures ∙ written c.args.piece.now m.seal (m.fed - 22) c.args.from c.min-count.result (omega arith))
