-- `met::find` meets its contract. The loop's invariant: the keys passed are others.
use Rattle.std.proofs.Common.{◌≡◌, ℕ, ◌<◌, sym, ap, ◌∙◌, subst, arith}
use Rattle.edges.specs.views.VertexKey.{key_with}
use Rattle.met.specs.views.KeysMet.{head_at}
use Rattle.met.proofs.Chains.{search_starts, search_on, search_here, search_ends}
use Rattle.met.proofs.find.Goals as goal

pub head-after-requires : goal.head-after-requires
head-after-requires c = c.hash-h.ensures.1

pub search-init : goal.search-init
search-init c =
    let a = c.args in
    let h = c.hash-h.ensures in
    search_starts a.t.now (key_with a.live a.pending) c.requires _
    (c.head-after.ensures ∙ ap (head_at a.t.now) h.0) (subst (λ (x : ℕ). x < 1024) h.0 h.1)

pub is_at-requires : goal.is_at-requires
is_at-requires c =
    let at = c.search in
    let some : at.after ≡ 0 → ⊥ = c.if-after-eq0.false in
    omega (arith, at.invariant.most, c.requires.few)

pub link-after-requires : goal.link-after-requires
link-after-requires c =
    let at = c.search in
    let some : at.after ≡ 0 → ⊥ = c.if-after-eq0.false in
    omega (arith, at.invariant.most, c.requires.few)

pub search-smaller : goal.search-smaller
search-smaller c =
    let a = c.args in
    let at = c.search in
    let other = sym c.is_at.ensures ∙ c.if-is_at.false in
    (search_on a.t.now (key_with a.live a.pending) c.requires at.after at.invariant
    c.if-after-eq0.false other _ c.link-after.ensures).1

pub search-preserved : goal.search-preserved
search-preserved c =
    let a = c.args in
    let at = c.search in
    let other = sym c.is_at.ensures ∙ c.if-is_at.false in
    (search_on a.t.now (key_with a.live a.pending) c.requires at.after at.invariant
    c.if-after-eq0.false other _ c.link-after.ensures).0

pub returns-then-after-eq0 : goal.returns-then-after-eq0
returns-then-after-eq0 c =
    let a = c.args in
    let at = c.search in
    c.count-n.ensures
    ∙ search_ends a.t.now (key_with a.live a.pending) c.requires at.after at.invariant c.if-after-eq0.true

pub returns-then-is_at : goal.returns-then-is_at
returns-then-is_at c =
    let a = c.args in
    let at = c.search in
    let same = sym c.is_at.ensures ∙ c.if-is_at.true in
    search_here a.t.now (key_with a.live a.pending) c.requires at.after at.invariant c.if-after-eq0.false same
