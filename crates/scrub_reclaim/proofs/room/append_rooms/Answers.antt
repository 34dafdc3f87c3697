-- The lines of extents that aren't candidates, and then those of candidates.
use Rattle.std.proofs.Common.{◌≡◌, ◌++◌, ◌∙◌, List, OnOk, ℕ, ap, map, subst, true, false}
use Rattle.std.specs.Prelude.{string_bytes}
use Rattle.scrub_listings.proofs.FlatLists.{appended_ok}
use Rattle.scrub_reclaim.specs.Room.{rooms_where}
use Rattle.scrub_reclaim.proofs.RoomLines.{in_any_order}
use Rattle.scrub_reclaim.proofs.room.append_rooms.Goals as goal

pub returns : goal.returns
returns g c loose checked candidates are same =
    let all = c.args.all.now.extents in
    let numbers : List ℕ = map (λ a. a.extent) candidates in
    appended_ok c.append_rooms_where-2.result (string_bytes c.args.text.now) (string_bytes c.append_rooms_where.new.text) (string_bytes c.append_rooms_where-2.new.text)
    (rooms_where false c.args.geometry all loose checked numbers) (rooms_where true c.args.geometry all loose checked numbers)
    (c.in_ok-append_rooms_where.ensures loose checked are
    ∙ ap (λ (u : List ℕ). string_bytes c.args.text.now ++ u) (in_any_order false c.args.geometry all loose checked numbers c.args.listed.now same))
    (subst (λ (u : List ℕ). OnOk c.append_rooms_where-2.result (string_bytes c.append_rooms_where-2.new.text ≡ string_bytes c.append_rooms_where.new.text ++ u))
    (in_any_order true c.args.geometry all loose checked numbers c.args.listed.now same) (c.append_rooms_where-2.ensures loose checked are))
