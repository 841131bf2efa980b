use Rattle.ja_writable.proofs.place.Place.enter.Goals as goal

pub returns-in-Method : goal.returns-in-Method
returns-in-Method c =
    let begun = rw c.has_code.ensures at c.begin.ensures in
    rw c.in-Method.is begun

pub returns-in-Initializer : goal.returns-in-Initializer
returns-in-Initializer c = rw c.in-Initializer.is c.begin-in-Initializer.ensures
