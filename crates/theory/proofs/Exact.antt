-- A step is taken if and only if all its conditions hold: line by line, its table says what its conditions say in words.
use Rattle.std.proofs.Common.{◌≡◌, ℕ, true, not, eqb, ◌≢◌, Ok, sym, ap, ◌∙◌}
use Rattle.std.proofs.lemmas.Bool.{and_parts, and_from, ltb-true, lt-ltb, leb-true, le-leb, not-true, not_from_false}
use Rattle.net.specs.Refusals.{Passes}
use Rattle.net.specs.States.{State}
use Rattle.net.specs.Qualities.{Qualities}
use Rattle.net.proofs.Tables.{passed, passing}
use Rattle.theory.specs.Tests.{member}
use Rattle.theory.specs.Rewrites.{post_merging, pre_merging, firing_ahead, fusing}
use Rattle.theory.specs.Steps.{Step, drop_dominated, drop_multiple, drop_composed, drop_draining, drop_starved, keep_sourceless, remove_plentiful, remove_implied, drop_siphon, limit_to, post_agglomerate, pre_agglomerate, free_agglomerate, fire_ahead, fuse_places, merge_checks, table, next}
use Rattle.theory.specs.Words.{Mergeable, Conditions, StepsAreExact}
use Rattle.theory.proofs.Says.{eqb_says, not_says}
use Rattle.theory.proofs.Meaning.{dominated_says, multiple_says, composed_says, draining_says, sourceless_says, unfed_says, starved_says, never_loses_says, always_enough_says, implied_says, covers_says, siphon_says, dry_says, sufficient_says, members_stand_says, holds_support_says, two_sided_says, post_consumers_says, post_weights_says, free_feeders_says, free_consumers_says, pre_feeders_says, unmarked_says, carries_says, ahead_says, in_limits_says, member_below, has_member_says}

distinct : (t u : ℕ) → not (eqb t u) ≡ true → t ≢ u
distinct t u = (not_says (eqb_says t u)).0

told_apart : (t u : ℕ) → t ≢ u → not (eqb t u) ≡ true
told_apart t u = (not_says (eqb_says t u)).1

mergeable : (s : State) (p : ℕ) (after : State) → Passes (merge_checks s p after) → Mergeable s p after
mergeable s p after x =
    record { pairs = leb-true _ _ x.0; rows = leb-true _ _ x.1.0; limits = (in_limits_says after).0 x.1.1.0 }

merge_passes : (s : State) (p : ℕ) (after : State) → Mergeable s p after → Passes (merge_checks s p after)
merge_passes s p after m = (le-leb _ _ m.pairs, (le-leb _ _ m.rows, ((in_limits_says after).1 m.limits, tt)))

pub to_words : (s : State) (x : Step) → Qualities s → Passes (table s x) → Conditions s x
to_words s (drop_dominated t u) q c =
    let n = and_parts _ _ c.0 in
    let a = ltb-true t s.transitions n.0 in
    let b = ltb-true u s.transitions n.1 in
    (a, b, distinct t u c.1.0, (dominated_says s t u a b).0 c.1.1.0)
to_words s (drop_multiple t u k) q c =
    let n = and_parts _ _ c.0 in
    let a = ltb-true t s.transitions n.0 in
    let b = ltb-true u s.transitions n.1 in
    (a, b, distinct t u c.1.0, ltb-true 0 k c.1.1.0, (multiple_says s t u k a b).0 c.1.1.1.0)
to_words s (drop_composed t u v) q c =
    let n = and_parts _ _ c.0 in
    let m = and_parts _ _ n.1 in
    let a = ltb-true t s.transitions n.0 in
    let b = ltb-true u s.transitions m.0 in
    let d = ltb-true v s.transitions m.1 in
    let e = and_parts _ _ c.1.0 in
    (a, b, d, distinct t u e.0, distinct t v e.1, (composed_says s t u v a b d).0 c.1.1.0)
to_words s (drop_draining t) q c =
    let a = ltb-true t s.transitions c.1.0 in (not-true _ c.0, (a, (draining_says s t a).0 c.1.1.0))
to_words s (drop_starved t p) q c =
    let a = ltb-true t s.transitions c.0 in (a, c.1.0, (unfed_says s p).0 c.1.1.0, (starved_says s t p a).0 c.1.1.1.0)
to_words s (keep_sourceless t) q c =
    let a = ltb-true t s.transitions c.1.0 in (not-true _ c.0, (a, (sourceless_says s t a).0 c.1.1.0))
to_words s (remove_plentiful p) q c =
    (c.0, not-true _ c.1.0, (never_loses_says s p).0 c.1.1.0, (always_enough_says s p).0 c.1.1.1.0)
to_words s (remove_implied p r k) q c =
    let n = and_parts _ _ c.0 in (
      n.0,
      n.1,
      distinct p r c.1.0,
      ltb-true 0 k c.1.1.0,
      not-true _ c.1.1.1.0,
      (implied_says s p r k).0 c.1.1.1.1.0,
      (covers_says s p r k).0 c.1.1.1.1.1.0,
    )
to_words s (drop_siphon z) q c = (
  (members_stand_says s (member z) (member_below z)).0 c.0,
  (has_member_says z).0 c.1.0,
  (siphon_says s (member z)).0 c.1.1.0,
  (dry_says s (member z)).0 c.1.1.1.0,
)
to_words s (limit_to z) q c = (
  not-true _ c.0,
  (members_stand_says s (member z) (member_below z)).0 c.1.0,
  (holds_support_says s (member z) q.supports).0 c.1.1.0,
  (sufficient_says s (member z)).0 c.1.1.1.0,
)
to_words s (post_agglomerate p) q c =
    let T = (two_sided_says s p).0 c.1.1.0 in (
      c.0,
      not-true _ c.1.0,
      T,
      (post_consumers_says s p).0 c.1.1.1.0,
      (post_weights_says s p T).0 c.1.1.1.1.0,
      (unmarked_says s p).0 c.1.1.1.1.1.0,
      mergeable s p (post_merging p s) c.1.1.1.1.1.1,
    )
to_words s (pre_agglomerate p) q c =
    let f = and_parts _ _ c.1.1.1.0 in (
      c.0,
      not-true _ c.1.0,
      (two_sided_says s p).0 c.1.1.0,
      (free_feeders_says s p).0 f.0,
      (pre_feeders_says s p).0 f.1,
      (free_consumers_says s p).0 c.1.1.1.1.0,
      (unmarked_says s p).0 c.1.1.1.1.1.0,
      mergeable s p (pre_merging p s) c.1.1.1.1.1.1,
    )
to_words s (free_agglomerate p) q c = (
  not-true _ c.0,
  c.1.0,
  not-true _ c.1.1.0,
  (two_sided_says s p).0 c.1.1.1.0,
  (free_feeders_says s p).0 c.1.1.1.1.0,
  (free_consumers_says s p).0 c.1.1.1.1.1.0,
  (unmarked_says s p).0 c.1.1.1.1.1.1.0,
  mergeable s p (pre_merging p s) c.1.1.1.1.1.1.1,
)
to_words s (fire_ahead t k) q c =
    let a = ltb-true t s.transitions c.0 in
    (a, ltb-true 0 k c.1.0, (ahead_says s t k a).0 (and_from _ _ c.1.1.0 c.1.1.1.0), (in_limits_says (firing_ahead t k s)).0 c.1.1.1.1.0)
to_words s (fuse_places p r a b) q c =
    let n = and_parts _ _ c.0 in
    let m = and_parts _ _ c.1.0 in
    let o = and_parts _ _ c.1.1.1.0 in
    let l = and_parts _ _ c.1.1.1.1.0 in
    let d = ltb-true a s.transitions n.0 in
    let e = ltb-true b s.transitions n.1 in (
      d,
      e,
      m.0,
      m.1,
      distinct p r c.1.1.0,
      not-true _ o.0,
      not-true _ o.1,
      (carries_says s a p r d).0 l.0,
      (carries_says s b r p e).0 l.1,
      (in_limits_says (fusing p r s)).0 c.1.1.1.1.1.0,
    )

from_words : (s : State) (x : Step) → Qualities s → Conditions s x → Passes (table s x)
from_words s (drop_dominated t u) q c =
    (and_from _ _ (lt-ltb _ _ c.0) (lt-ltb _ _ c.1), (told_apart t u c.2, ((dominated_says s t u c.0 c.1).1 c.3, tt)))
from_words s (drop_multiple t u k) q c = (
  and_from _ _ (lt-ltb _ _ c.0) (lt-ltb _ _ c.1),
  (told_apart t u c.2, (lt-ltb 0 k c.3, ((multiple_says s t u k c.0 c.1).1 c.4, tt))),
)
from_words s (drop_composed t u v) q c = (
  and_from _ _ (lt-ltb _ _ c.0) (and_from _ _ (lt-ltb _ _ c.1) (lt-ltb _ _ c.2)),
  (and_from _ _ (told_apart t u c.3) (told_apart t v c.4), ((composed_says s t u v c.0 c.1 c.2).1 c.5, tt)),
)
from_words s (drop_draining t) q c =
    (not_from_false _ c.0, (lt-ltb _ _ c.1.0, ((draining_says s t c.1.0).1 c.1.1, tt)))
from_words s (drop_starved t p) q c =
    (lt-ltb _ _ c.0, (c.1, ((unfed_says s p).1 c.2, ((starved_says s t p c.0).1 c.3, tt))))
from_words s (keep_sourceless t) q c =
    (not_from_false _ c.0, (lt-ltb _ _ c.1.0, ((sourceless_says s t c.1.0).1 c.1.1, tt)))
from_words s (remove_plentiful p) q c =
    (c.0, (not_from_false _ c.1, ((never_loses_says s p).1 c.2, ((always_enough_says s p).1 c.3, tt))))
from_words s (remove_implied p r k) q c = (
  and_from _ _ c.0 c.1,
  (told_apart p r c.2, (lt-ltb 0 k c.3, (not_from_false _ c.4, ((implied_says s p r k).1 c.5, ((covers_says s p r k).1 c.6, tt))))),
)
from_words s (drop_siphon z) q c = (
  (members_stand_says s (member z) (member_below z)).1 c.0,
  ((has_member_says z).1 c.1, ((siphon_says s (member z)).1 c.2, ((dry_says s (member z)).1 c.3, tt))),
)
from_words s (limit_to z) q c = (
  not_from_false _ c.0,
  (
    (members_stand_says s (member z) (member_below z)).1 c.1,
    ((holds_support_says s (member z) q.supports).1 c.2, ((sufficient_says s (member z)).1 c.3, tt)),
  ),
)
from_words s (post_agglomerate p) q c = (
  c.0,
  (
    not_from_false _ c.1,
    (
      (two_sided_says s p).1 c.2,
      (
        (post_consumers_says s p).1 c.3,
        (
          (post_weights_says s p c.2).1 c.4,
          ((unmarked_says s p).1 c.5, merge_passes s p (post_merging p s) c.6),
        ),
      ),
    ),
  ),
)
from_words s (pre_agglomerate p) q c = (
  c.0,
  (
    not_from_false _ c.1,
    (
      (two_sided_says s p).1 c.2,
      (
        and_from _ _ ((free_feeders_says s p).1 c.3) ((pre_feeders_says s p).1 c.4),
        ((free_consumers_says s p).1 c.5, ((unmarked_says s p).1 c.6, merge_passes s p (pre_merging p s) c.7)),
      ),
    ),
  ),
)
from_words s (free_agglomerate p) q c = (
  not_from_false _ c.0,
  (
    c.1,
    (
      not_from_false _ c.2,
      (
        (two_sided_says s p).1 c.3,
        (
          (free_feeders_says s p).1 c.4,
          ((free_consumers_says s p).1 c.5, ((unmarked_says s p).1 c.6, merge_passes s p (pre_merging p s) c.7)),
        ),
      ),
    ),
  ),
)
from_words s (fire_ahead t k) q c =
    let x = and_parts _ _ ((ahead_says s t k c.0).1 c.2) in
    (lt-ltb _ _ c.0, (lt-ltb 0 k c.1, (x.0, (x.1, ((in_limits_says (firing_ahead t k s)).1 c.3, tt)))))
from_words s (fuse_places p r a b) q c = (
  and_from _ _ (lt-ltb _ _ c.0) (lt-ltb _ _ c.1),
  (
    and_from _ _ c.2 c.3,
    (
      told_apart p r c.4,
      (
        and_from _ _ (not_from_false _ c.5) (not_from_false _ c.6),
        (
          and_from _ _ ((carries_says s a p r c.0).1 c.7) ((carries_says s b r p c.1).1 c.8),
          ((in_limits_says (fusing p r s)).1 c.9, tt),
        ),
      ),
    ),
  ),
)

pub steps_are_exact : StepsAreExact
steps_are_exact s t x q = (
  λ h. let k = passed (table s x) (next s x) t h in (to_words s x q k.0, sym k.1),
  λ c e. passing (table s x) (next s x) (from_words s x q c) ∙ ap (λ (u : State). Ok u) (sym e),
)
