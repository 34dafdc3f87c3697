-- What is claimed at the locator's place is its chunk, and says its form.
use Rattle.std.proofs.Common.{rules, ◌≡◌, ◌∙◌, ap}
use Rattle.std.proofs.lemmas.Result.{IfOk-weaker}
use Rattle.list_facts.proofs.Options.{IfNone-at, IfSome-at}
use Rattle.scrub_disk.specs.Image.{extent_bytes}
use Rattle.scrub_scan.specs.Extent.{extent_of, FrameAt, NoFrameAt}
use Rattle.scrub_scan.specs.Standing.{IsClaimedAt, HasPayload}
use Rattle.scrub_scan.proofs.Claims.{only_frame}
use Rattle.scrub_check.specs.ChunkRun.{standing_of, HasPayloadThere}
use Rattle.scrub_check.proofs.runs.payload_at.Goals as goal

pub unreachable-requires : goal.unreachable-requires
unreachable-requires g c =
    let image = g.D.PageSource.image c.args.disk.now in
    let l = c.args.locator.now in
    let end : c.extent_bytes-end.result ≡ extent_bytes image.geometry =
    c.extent_bytes-end.ensures ∙ ap extent_bytes c.geometry.ensures in
    let none : NoFrameAt (extent_of image l.extent c.extent_bytes-end.result) l.offset =
    IfNone-at (NoFrameAt (extent_of image l.extent c.extent_bytes-end.result) l.offset) c.in_ok-head.field-0 c.in_default.is
    c.in_ok-head.ensures.none in
    none c.requires.form l.uuid c.requires.stands.payload
    (rw end c.requires.stands.has.frame.frame)

pub read_payload-requires : goal.read_payload-requires
read_payload-requires g c =
    let image = g.D.PageSource.image c.args.disk.now in
    let l = c.args.locator.now in
    let w = c.extent_bytes-end.result in
    let end : w ≡ extent_bytes image.geometry = c.extent_bytes-end.ensures ∙ ap extent_bytes c.geometry.ensures in
    let claim : IsClaimedAt (extent_of image l.extent w) l.offset c.in-Some.head =
    IfSome-at (IsClaimedAt (extent_of image l.extent w) l.offset) c.in_ok-head.field-0 c.in-Some.head c.in-Some.is
    c.in_ok-head.ensures.found in
    let stands : FrameAt (extent_of image l.extent w) l.offset c.requires.form l.uuid c.requires.stands.payload =
    rw end c.requires.stands.has.frame.frame in
    let form : c.in-Some.head.form ≡ c.requires.form =
    (only_frame (extent_of image l.extent w) l.offset c.in-Some.head claim c.requires.form l.uuid c.requires.stands.payload stands).0 in
    (search rules, rw form c.requires.stands)

pub returns : goal.returns
returns g c =
    let image = g.D.PageSource.image c.args.disk.now in
    let l = c.args.locator.now in
    IfOk-weaker c.read_payload.result (λ b. HasPayload image (standing_of l c.in-Some.head.form) b.items)
    (λ b. HasPayloadThere image l b.items)
    (λ b has. record { form = c.in-Some.head.form; has = has }) c.read_payload.ensures
