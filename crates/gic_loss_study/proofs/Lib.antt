mod Attached
