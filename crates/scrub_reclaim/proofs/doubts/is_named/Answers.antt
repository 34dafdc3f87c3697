-- One of the lines is the text of the doubt, if that may be accepted.
use Rattle.std.proofs.Common.{◌≡◌, ◌&&◌, List, ℕ, Bool, true, false, map, sym, ap, ◌∙◌}
use Rattle.std.specs.Borrow.{Bor}
use Rattle.std.specs.List.{list_any}
use Rattle.std.specs.Str.{bytes_eq}
use Rattle.scrub_reclaim.specs.Doubts.{doubt_text, may_be_accepted}
use Rattle.scrub_reclaim.proofs.SpareDoubts.{any_mapped}
use Rattle.scrub_reclaim.proofs.doubts.is_named.Goals as goal

pub returns-then-may_be_accepted : goal.returns-then-may_be_accepted
returns-then-may_be_accepted c =
    let lines = c.args.lines.now in
    let doubt = c.args.doubt.now in
    let may : may_be_accepted doubt ≡ true = sym c.may_be_accepted.ensures ∙ c.if-may_be_accepted.true in
    c.is_among.ensures
    ∙ ap (λ (t : List ℕ). list_any (λ (line : Bor (List ℕ)). bytes_eq line.now t) lines) c.requires
    ∙ sym (any_mapped (λ (line : List ℕ). bytes_eq line (doubt_text doubt)) (λ (line : Bor (List ℕ)). line.now) lines)
    ∙ ap (λ (b : Bool). b && list_any (λ (line : List ℕ). bytes_eq line (doubt_text doubt)) (map (λ (line : Bor (List ℕ)). line.now) lines)) (sym may)

pub returns-else-may_be_accepted : goal.returns-else-may_be_accepted
returns-else-may_be_accepted c =
    let lines = c.args.lines.now in
    let doubt = c.args.doubt.now in
    let may : may_be_accepted doubt ≡ false = sym c.may_be_accepted.ensures ∙ c.if-may_be_accepted.false in
    c.if-may_be_accepted.false
    ∙ ap (λ (b : Bool). b && list_any (λ (line : List ℕ). bytes_eq line (doubt_text doubt)) (map (λ (line : Bor (List ℕ)). line.now) lines)) (sym may)
