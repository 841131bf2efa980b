use Rattle.std.proofs.Common.{◌≡◌, refl, take, true}
use Rattle.std.proofs.lemmas.Result.{on_ok_weaker}
use Rattle.ja_facts.specs.Listing.{with_listed_in}
use Rattle.ja_network.specs.declared.cell.Event.TheVariants.{Reached, Calls, CallsAbstract, CallsLibrary, Spanned, Linked}
use Rattle.ja_network.specs.Facts.{events_of}
use Rattle.ja_class_tables.specs.declared.notes.Notes.{Notes}
use Rattle.ja_class_tables.specs.InnerNotes.{noted_at, with_method, with_library}
use Rattle.ja_class_tables.proofs.Noted.{noted-next, noted-reached, noted-calls, noted-abstract, noted-library, noted-other}
use Rattle.ja_class_tables.proofs.notes.note.Goals as goal

pub returns-in-Reached : goal.returns-in-Reached
returns-in-Reached c =
    let notes = c.args.notes.now in
    let events = events_of c.args.net.now in
    let m = c.in-Reached.method in
    let i = c.in-Reached.index in
    noted-next c.args.p.now events c.args.k c.args.event (Reached m i) (record notes { graph = record notes.graph { reached = with_listed_in notes.graph.reached m i true } }) c.note_reached.new.notes
    c.requires.next c.in-Reached.is c.note_reached.ensures (noted-reached c.args.p.now (take c.args.k events) m i notes c.requires.noted)

pub returns-in-Calls : goal.returns-in-Calls
returns-in-Calls c =
    let notes = c.args.notes.now in
    let events = events_of c.args.net.now in
    let m = c.in-Calls.method in
    let i = c.in-Calls.index in
    let n = c.in-Calls.target in
    let new : Notes = record notes { targets = with_listed_in notes.targets m i (with_method (noted_at notes m i) n) } in
    on_ok_weaker c.note_method.result
    (λ (same : c.note_method.new.notes ≡ new). noted-next c.args.p.now events c.args.k c.args.event (Calls m i n) new c.note_method.new.notes c.requires.next c.in-Calls.is same
    (noted-calls c.args.p.now (take c.args.k events) m i n notes c.requires.noted)) c.note_method.ensures

pub returns-in-CallsAbstract : goal.returns-in-CallsAbstract
returns-in-CallsAbstract c =
    let notes = c.args.notes.now in
    let events = events_of c.args.net.now in
    let m = c.in-CallsAbstract.method in
    let i = c.in-CallsAbstract.index in
    let n = c.in-CallsAbstract.target in
    let called = c.note_method-in-CallsAbstract in
    let new : Notes = record notes { targets = with_listed_in notes.targets m i (with_method (noted_at notes m i) n) } in
    on_ok_weaker called.result
    (λ (same : called.new.notes ≡ new). noted-next c.args.p.now events c.args.k c.args.event (CallsAbstract m i n) new called.new.notes c.requires.next c.in-CallsAbstract.is same
    (noted-abstract c.args.p.now (take c.args.k events) m i n notes c.requires.noted)) called.ensures

pub returns-in-CallsLibrary : goal.returns-in-CallsLibrary
returns-in-CallsLibrary c =
    let notes = c.args.notes.now in
    let events = events_of c.args.net.now in
    let m = c.in-CallsLibrary.method in
    let i = c.in-CallsLibrary.index in
    noted-next c.args.p.now events c.args.k c.args.event (CallsLibrary m i) (record notes { targets = with_listed_in notes.targets m i (with_library (noted_at notes m i)) }) c.note_library.new.notes
    c.requires.next c.in-CallsLibrary.is c.note_library.ensures (noted-library c.args.p.now (take c.args.k events) m i notes c.requires.noted)

pub returns-in-Spanned : goal.returns-in-Spanned
returns-in-Spanned c =
    let events = events_of c.args.net.now in
    let e = Spanned c.in-Spanned.token in
    noted-next c.args.p.now events c.args.k c.args.event e c.args.notes.now c.args.notes.now c.requires.next c.in-Spanned.is refl
    (noted-other c.args.p.now (take c.args.k events) e c.args.notes.now (λ a b same. cc) (λ a b n same. cc) (λ a b n same. cc) (λ a b same. cc) c.requires.noted)

pub returns-in-Linked : goal.returns-in-Linked
returns-in-Linked c =
    let events = events_of c.args.net.now in
    let e = Linked c.in-Linked.from c.in-Linked.action in
    noted-next c.args.p.now events c.args.k c.args.event e c.args.notes.now c.args.notes.now c.requires.next c.in-Linked.is refl
    (noted-other c.args.p.now (take c.args.k events) e c.args.notes.now (λ a b same. cc) (λ a b n same. cc) (λ a b n same. cc) (λ a b same. cc) c.requires.noted)
