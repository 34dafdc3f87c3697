-- What a frame costs, or that there is none.
use Rattle.std.proofs.Common.{arith, ap, refl, subst, sym, ◌∙◌, ◌≡◌, ◌≤◌, ◌/◌}
use Rattle.sha2.specs.Sha256.{sha256}
use Rattle.scrub_frame.specs.declared.form.Form.{Form}
use Rattle.scrub_scan.specs.steps.Gathering.{seal_in}
use Rattle.scrub_scan.specs.steps.Pages.{target_of, last_page}
use Rattle.scrub_scan.proofs.Asked.{costs}
use Rattle.scrub_scan.proofs.Claims.{only_frame}
use Rattle.scrub_scan.proofs.scanner.Scanner.scan_frame.Goals as goal

pub returns-in_default-clause-reads : goal.returns-in_default-clause-reads
returns-in_default-clause-reads g c =
    let q = c.args.start / c.args.target.now.page in
    record {
      near = ap (λ p. p.number) c.claimed_head.ensures.reads.near ∙ c.load_near.ensures.number;
      asked = λ n h.
          omega (
            arith,
            c.load_near.ensures.asked n h,
            c.claimed_head.ensures.reads.asked,
            (g.D.PageSource.image c.args.disk.now).geometry.pages_least,
          );
      read = λ h. c.claimed_head.ensures.reads.read q (c.load_near.ensures.read q h);
    }

pub returns-in-Some-match_frame-clause-reads : goal.returns-in-Some-match_frame-clause-reads
returns-in-Some-match_frame-clause-reads g c =
    let t = c.args.target.now in
    let x = target_of (g.D.PageSource.image c.args.disk.now) t in
    let q = c.args.start / t.page in
    let near = ap (λ p. p.number) c.claimed_head.ensures.reads.near ∙ c.load_near.ensures.number in
    let f = c.in-Some-match_frame.found in
    let found = c.in-Some-match_frame.ensures.found in
    let reads = c.in-Some-match_frame.ensures.reads in
    record {
      near = ap (λ p. p.number) reads.near ∙ near;
      asked = λ n h.
          costs q (last_page t c.args.start f.form f.length) n c.load_near.new.self.asked c.claimed_head.new.self.pages.asked
          c.match_frame.new.self.pages.asked (c.load_near.ensures.asked n h) c.claimed_head.ensures.reads.asked
          (λ last.
          let one = only_frame x c.args.start c.in-Some.head c.in-Some.ensures.claimed f.form f.uuid found.payload found.frame in
          let length_is : c.in-Some.head.length ≡ f.length = one.2 ∙ sym found.size in
          let small : last_page t c.args.start c.in-Some.head.form c.in-Some.head.length ≤ q =
          rw (one.0, length_is) last in
          c.in-Some.ensures.reads.known (small, c.load_near.ensures.number))
          (reads.asked near);
      read = λ h. reads.read (c.claimed_head.ensures.reads.read q (c.load_near.ensures.read q h));
    }

pub returns-in-None-clause-reads : goal.returns-in-None-clause-reads
returns-in-None-clause-reads g c =
    let q = c.args.start / c.args.target.now.page in
    let near = ap (λ p. p.number) c.claimed_head.ensures.reads.near ∙ c.load_near.ensures.number in
    let reads = c.in-None.ensures.reads in
    record {
      near = ap (λ p. p.number) reads.near ∙ near;
      asked = λ n h.
          omega (arith, c.load_near.ensures.asked n h, c.claimed_head.ensures.reads.asked, reads.asked near);
      read = λ h. reads.read (c.claimed_head.ensures.reads.read q (c.load_near.ensures.read q h));
    }

pub returns-clause-found : goal.returns-clause-found
returns-clause-found g c = λ messages held.
    let passed = rw c.in-Some-2.is at (c.in_ok-digest.ensures.found messages held) in
    record {
      digest = sha256 passed.payload;
      found = λ agrees. record { payload = passed.payload; frame = passed.frame agrees; size = passed.size; digest = refl };
      compared = λ no.
          subst (λ (f : Form). seal_in f (sha256 passed.payload) ≡ seal_in f c.in-Some-2.digest)
          (sym (c.gathers.ensures c.if-not-gathers.false no)) refl;
      added = (passed.payload, refl, passed.gathers);
    }

pub returns-clause-reads : goal.returns-clause-reads
returns-clause-reads g c =
    let t = c.args.target.now in
    let q = c.args.start / t.page in
    let near = ap (λ p. p.number) c.claimed_head.ensures.reads.near ∙ c.load_near.ensures.number in
    let head = c.in-Some.head in
    let reads = rw c.in-Some-2.is at c.in_ok-digest.ensures.reads in
    record {
      near = ap (λ p. p.number) reads.near ∙ near;
      asked = λ n h.
          costs q (last_page t c.args.start head.form head.length) n c.load_near.new.self.asked
          c.claimed_head.new.self.pages.asked c.gather_frame.new.self.pages.asked (c.load_near.ensures.asked n h)
          c.claimed_head.ensures.reads.asked
          (λ last. c.in-Some.ensures.reads.known (last, c.load_near.ensures.number)) (reads.asked near);
      read = λ h. reads.read (c.claimed_head.ensures.reads.read q (c.load_near.ensures.read q h));
    }

pub returns-in_default-2-clause-found : goal.returns-in_default-2-clause-found
returns-in_default-2-clause-found g c = λ messages held.
    rw c.in_default-2.is at (c.in_ok-digest.ensures.found messages held)

pub returns-in_default-2-clause-reads : goal.returns-in_default-2-clause-reads
returns-in_default-2-clause-reads g c =
    let q = c.args.start / c.args.target.now.page in
    let near = ap (λ p. p.number) c.claimed_head.ensures.reads.near ∙ c.load_near.ensures.number in
    let reads = rw c.in_default-2.is at c.in_ok-digest.ensures.reads in
    record {
      near = ap (λ p. p.number) reads.near ∙ near;
      asked = λ n h.
          omega (arith, c.load_near.ensures.asked n h, c.claimed_head.ensures.reads.asked, reads.asked near);
      read = λ h. reads.read (c.claimed_head.ensures.reads.read q (c.load_near.ensures.read q h));
    }
