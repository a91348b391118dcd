mod Dealt
